-- A bound on rounds by the number of nodes alone; no such bound on moves is known.
use Rattle.std.proofs.Common.{None, ◌+◌, ◌*◌, ◌/◌}
use Rattle.std.proofs.lemmas.Option.{none-some}
use Rattle.rule_machine.specs.Manne.{manne}
use Rattle.move_bounds.specs.MovesLeft.{BoundsByNodes}
use Rattle.move_bounds.specs.RoundsLeft.{BoundsRoundsByNodes}
use Rattle.round_laws.proofs.Manne.{rounds_are_few}

pub unbounded_by_nodes : BoundsByNodes manne (λ n. None)
unbounded_by_nodes s spent good bound is = absurd (none-some bound is)

pub manne_rounds : BoundsRoundsByNodes manne (λ n. n + 2 * (n / 2))
manne_rounds = rounds_are_few
