use Rattle.keyed_lock.specs.LockSteps.{Waits}
use Rattle.keyed_lock.proofs.lock.KeyedLock.claim.Given as goal

abbrev pub invariant-loop : goal.invariant-loop
invariant-loop g l = Waits l.fn.self.table.shared.table_id l.fn.self.table.shared.key l.seat
