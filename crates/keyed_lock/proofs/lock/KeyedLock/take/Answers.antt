use Rattle.std.proofs.Common.{rules, refl, Some}
use Rattle.keyed_lock.proofs.lock.KeyedLock.take.Goals as goal

pub exchange-slot-requires : goal.exchange-slot-requires
exchange-slot-requires g c = let is = c.claim.ensures.value.1 in (search rules, (Some c.claim.ensures.value.0, rw is refl))
