use Rattle.snapshots.proofs.Prelude.{◌++◌, sym, subst, BoardView}
use Rattle.snapshots.proofs.Boards.{is_ready}
use Rattle.snapshots.proofs.board.Board.publish.Goals as goal

pub show-requires-clause-ready : goal.show-requires-clause-ready
show-requires-clause-ready g c =
    let law = g.L.Law.holds in
    let holds = subst (λ (b : BoardView). law b.name.extent (b.list ++ b.posted)) (sym c.self.view_is) c.requires.law in
    is_ready law _ _ _ _ _ _ c.self.invariant holds
