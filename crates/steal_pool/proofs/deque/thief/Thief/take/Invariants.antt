use Rattle.steal_pool.proofs.Prelude.{◌≡◌, thief_deque, thief_ledger}
use Rattle.steal_pool.proofs.deque.thief.Thief.take.Given as goal

abbrev pub invariant-loop : goal.invariant-loop
invariant-loop g l = (thief_deque l.self ≡ thief_deque l.initial.self) × (thief_ledger l.self ≡ thief_ledger l.initial.self)
