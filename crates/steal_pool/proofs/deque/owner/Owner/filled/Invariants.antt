use Rattle.steal_pool.proofs.Prelude.{◌≡◌, ◌≤◌, ◌-◌, [], worker_flavor, worker_view, ledger}
use Rattle.steal_pool.proofs.deque.owner.Owner.filled.Given as goal

abbrev pub invariant-loop-first : goal.invariant-loop-first
invariant-loop-first l = record {
  in_order : worker_flavor l.worker ≡ 0;
  known : worker_view l.worker ≡ ledger 64 l.first [];
  within : l.first ≤ l.count;
  numbers : l.number ≤ l.first;
}

abbrev pub decreases-loop-first : goal.decreases-loop-first
decreases-loop-first l = l.count - l.first
