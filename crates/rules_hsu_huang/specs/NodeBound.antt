-- A run without a disturbance has at most as many moves and rounds as the number of nodes alone allows.
use Rattle.std.proofs.Common.{Some, subst}
use Rattle.std.proofs.lemmas.Option.{same_Some}
use Rattle.rule_machine.specs.HsuHuang.{hsu_huang}
use Rattle.rule_machine.specs.Network.{node_count}
use Rattle.dense_laws.specs.Bound.{dense_bound}
use Rattle.dense_laws.proofs.Bound.{within_bound}
use Rattle.move_bounds.specs.MovesLeft.{BoundsByNodes, BoundsMoves}
use Rattle.move_bounds.specs.RoundsLeft.{BoundsRoundsByNodes}
use Rattle.round_laws.proofs.HsuHuang.{rounds_are_few}

pub bounded_by_nodes : BoundsByNodes hsu_huang (λ n. Some (dense_bound n))
bounded_by_nodes s spent good bound is =
    subst (BoundsMoves hsu_huang s spent) (same_Some (dense_bound (node_count s.network)) bound is) (within_bound (record { state = s; spent = spent }) good)

pub hsu_huang_rounds : BoundsRoundsByNodes hsu_huang (λ n. n)
hsu_huang_rounds = rounds_are_few
