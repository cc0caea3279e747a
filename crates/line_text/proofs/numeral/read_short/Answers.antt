use Rattle.std.proofs.Common.{[], arith}
use Rattle.line_text.proofs.FewDigits.{number_alone, number_once}
use Rattle.line_text.proofs.numeral.read_short.Goals as goal

pub returns-in_default : goal.returns-in_default
returns-in_default c n f e = c.in_default.ensures n [] (number_alone c.args.bytes.now n f e)

pub returns-then-not-is_empty : goal.returns-then-not-is_empty
returns-then-not-is_empty c n f e =
    let r = number_once c.args.bytes.now c.in-Some.number n c.in-Some.rest.now [] c.in-Some.ensures (number_alone c.args.bytes.now n f e) in
    absurd (grind arith)
