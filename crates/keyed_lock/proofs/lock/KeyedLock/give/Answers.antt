use Rattle.std.proofs.Common.{rules, ◌∷◌, ap, ◌∙◌, Some}
use Rattle.atomic_table.specs.Table.{rest}
use Rattle.keyed_lock.proofs.LockSteps.{leaves}
use Rattle.keyed_lock.proofs.lock.KeyedLock.give.Goals as goal

pub swap-requires : goal.swap-requires
swap-requires g c = let me = c.exchange-slot.ensures.3 ∙ ap (λ m. (m.0, (0, Some c.args.value) ∷ rest m.1)) c.requires.hold.1 in (
  search rules,
  search rules,
  rw (c.args.self.now.one_slot, me) (leaves g.I.Invariant.holds c.args.self.now.table.shared.key c.exchange-slot.new.seat.id c.args.value c.requires.value),
)
