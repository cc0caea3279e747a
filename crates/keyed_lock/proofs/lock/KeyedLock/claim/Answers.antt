use Rattle.std.proofs.Common.{rules, ap, arith}
use mathlib.Core.Option.{none}
use Rattle.atomic_table.specs.Table.{step}
use Rattle.keyed_lock.proofs.LockSteps.{claims, exchanged_busy}
use Rattle.keyed_lock.proofs.lock.KeyedLock.claim.Goals as goal

pub compare_exchange-requires : goal.compare_exchange-requires
compare_exchange-requires g c =
    let is = ap (λ m. m.0) c.requires.1 in (search rules, search rules, claims g.I.Invariant.holds c.args.self.now.table.shared.key _ exchanged_busy _ _ _ (step 0 0 0 1 none) is)

pub swap-requires : goal.swap-requires
swap-requires g c =
    let is = ap (λ m. m.0) c.loop.invariant.1 in (search rules, search rules, claims g.I.Invariant.holds c.args.self.now.table.shared.key (λ _. 2) (λ _. omega arith) _ _ _ (step 0 0 2 0 none) is)
