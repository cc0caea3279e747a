use Rattle.snapshots.proofs.Prelude.{sym, subst, Some, ExtendsView, IsSound}
use Rattle.left_right.specs.Sides.{view as known}
use Rattle.snapshots.proofs.BoardSteps.{turns}
use Rattle.snapshots.proofs.sharing.show.Goals as goal

pub publish_as-writer-requires : goal.publish_as-writer-requires
publish_as-writer-requires g c next is =
    let law = g.L.Law.holds in
    let desk = c.args.writer.desk in
    turns law desk.place.id (known desk.place) desk.shown.value next (λ s. subst (IsSound law) (sym is) (c.requires.0 s)) (subst (ExtendsView (Some desk.shown.value)) (sym is) c.requires.1)
