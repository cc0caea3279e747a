use Rattle.std.proofs.Common.{refl}
use Rattle.graph_store.proofs.Results.{gap_here}
use Rattle.graph_store.proofs.rows.guess_gap.Goals as goal

pub returns-then-is_below : goal.returns-then-is_below
returns-then-is_below c =
    gap_here c.args.row.now c.args.name c.args.guess c.requires.rising c.if-guess-row.true (c.if-is_above.ensures refl) (c.if-is_below.ensures refl)
