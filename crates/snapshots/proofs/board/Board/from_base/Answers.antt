use Rattle.snapshots.proofs.Prelude.{ap, ◌∙◌, FromBase, extent_of, shown}
use Rattle.snapshots.proofs.Boards.{begins, extent_at_start}
use Rattle.snapshots.proofs.board.Board.from_base.Goals as goal

pub over-requires-clause-board : goal.over-requires-clause-board
over-requires-clause-board g c =
    begins g.L.Law.holds c.args.places (FromBase c.args.base.now) _ _ _ c.requires.law c.in_ok-copy.ensures c.open-history.ensures

pub returns : goal.returns
returns g c =
    let front = c.open-history.result.front.seen in (
      c.over.ensures.entries.0 ∙ (ap (λ x. shown x.marks) c.in_ok-copy.ensures ∙ ap shown c.open-history.ensures),
      c.over.ensures.entries.1,
      c.over.ensures.extent ∙ (ap extent_of c.in_ok-copy.ensures ∙ extent_at_start c.args.places (FromBase c.args.base.now) front.log front.book c.open-history.ensures),
    )
