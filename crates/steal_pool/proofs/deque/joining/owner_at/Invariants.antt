use Rattle.steal_pool.proofs.Prelude.{◌≡◌, drop, sum_by, end_owners}
use Rattle.steal_pool.proofs.deque.joining.owner_at.Given as goal

abbrev pub invariant-loop-at : goal.invariant-loop-at
invariant-loop-at l = sum_by end_owners (drop l.at l.ends) ≡ 1
