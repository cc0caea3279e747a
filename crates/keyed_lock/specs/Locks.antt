-- What contracts say of a lock and of a hold.
use Rattle.keyed_lock.specs.LockSteps.{Holds}
use Rattle.keyed_lock.specs.declared.lock.Hold.{Hold}
use Rattle.keyed_lock.specs.declared.lock.KeyedLock.{KeyedLock}

module _ {T K I : Type 0} where
  abbrev pub key_of : KeyedLock T K I → K
  key_of lock = lock.table.shared.key

  -- the hold came from this lock
  abbrev pub IsHoldOf : KeyedLock T K I → Hold T K → Type 0
  IsHoldOf lock hold = Holds lock.table.shared.table_id lock.table.shared.key hold.seat
