use Rattle.steal_pool.proofs.Prelude.{◌≡◌, ℕ, ◌-◌, List, ◌++◌, length, owner_ledger, verdicts_of, IsVerdictTable, taken_in}
use Rattle.steal_pool.proofs.merging.judge_left.Given as goal

abbrev pub invariant-loop-block : goal.invariant-loop-block
invariant-loop-block g l = record {
  whole : (owner_ledger l.owner).parts ≡ 64;
  count : (owner_ledger l.owner).count ≡ length l.choice;
  right : IsVerdictTable (verdicts_of g.R.Rules.table l.net.state l.choice) l.table (taken_in (owner_ledger l.owner));
  taken : (left : List ℕ) × ((owner_ledger l.owner).taken ≡ (owner_ledger l.fn.owner).taken ++ left);
}

abbrev pub decreases-loop-block : goal.decreases-loop-block
decreases-loop-block g l = length l.choice - length (owner_ledger l.owner).taken
