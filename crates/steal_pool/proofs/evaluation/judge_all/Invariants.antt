use Rattle.steal_pool.proofs.Prelude.{◌≡◌, take, verdicts_of}
use Rattle.steal_pool.proofs.evaluation.judge_all.Given as goal

abbrev pub invariant-loop-place : goal.invariant-loop-place
invariant-loop-place g l = l.verdicts.items ≡ take l.place (verdicts_of g.R.Rules.table l.net.state l.choice)
