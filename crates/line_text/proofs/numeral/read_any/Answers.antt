use Rattle.std.proofs.Common.{length, ap, arith}
use Rattle.line_text.proofs.FewDigits.{number_few}
use Rattle.line_text.proofs.numeral.read_any.Goals as goal

pub returns-in_default : goal.returns-in_default
returns-in_default c n small e = c.in_default.ensures n (number_few n small (omega (arith, ap length e, c.if-bytes-gt-FEW_DIGITS.false))) e
