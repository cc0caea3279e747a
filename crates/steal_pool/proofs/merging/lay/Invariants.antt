use Rattle.steal_pool.proofs.Prelude.{◌≡◌, length, drop, laid}
use Rattle.steal_pool.proofs.merging.lay.Given as goal

abbrev pub invariant-loop-verdict : goal.invariant-loop-verdict
invariant-loop-verdict l = (laid l.table (drop l.verdict-index l.verdicts) ≡ laid l.initial.table l.verdicts) × (length l.table ≡ length l.initial.table)
