use Rattle.line_text.proofs.Prelude.{◌<◌, ◌^◌, ◌∙◌, sym, arith, decimal_injective}
use Rattle.line_text.proofs.numeral.read_number.Goals as goal

pub returns-then-number-most : goal.returns-then-number-most
returns-then-number-most c n few e =
    let small : n < 2 ^ 64 = omega (arith, few, c.ranges.most.fits) in
    let same = decimal_injective c.in-Some.number n c.in-Some.ensures.0 small (sym c.in-Some.ensures.1 ∙ e) in
    let above = c.if-number-most.true in
    omega (arith, same, few, above)
