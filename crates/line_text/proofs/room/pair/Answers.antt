use Rattle.std.proofs.Common.{◌∙◌}
use Rattle.line_text.proofs.Windows.{PAIRS_at}
use Rattle.line_text.proofs.room.pair.Goals as goal

pub returns : goal.returns
returns c =
    let digits = PAIRS_at c.args.number c.requires in
    c.from.ensures ∙ (rw (digits.0, digits.1) at c.from_le_bytes.ensures)
