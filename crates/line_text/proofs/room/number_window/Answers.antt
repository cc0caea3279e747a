use Rattle.std.proofs.Common.{rules}
use Rattle.line_text.proofs.Windows.{number_in_window, packed}
use Rattle.line_text.proofs.room.number_window.Goals as goal

pub returns-clause-text : goal.returns-clause-text
returns-clause-text c =
    let n = c.args.number in
    let zeros = c.leading_zeros-zeros.ensures n c.requires c.digits-digits.ensures in
    let window = packed n c.args.behind c.digits-digits.result c.requires (search rules) c.digits-digits.ensures in
    rw (c.to_le_bytes.ensures, c.from.ensures) (number_in_window n c.args.behind _ c.leading_zeros-zeros.result c.requires (search rules) window zeros)
