use Rattle.line_text.proofs.Prelude.{◌≡◌, ◌≤◌, ap, ◌∙◌, subst, take, length, arith, AllDigits, digits_value, take-take, length-take-le}
use Rattle.line_text.proofs.Digits.{ends_within}
use Rattle.line_text.proofs.front.name_digits.Goals as goal

pub returns : goal.returns
returns c =
    let bytes = c.args.bytes.now in
    let d = c.digits_in_front-2 in
    let six : length (take 6 bytes) ≡ 6 = length-take-le 6 bytes c.if-bytes-lt-ENOUGH.false in
    let few : d.result.0 ≤ 6 = omega (arith, six, d.ensures.within) in
    let same : take d.result.0 (take 6 bytes) ≡ take d.result.0 bytes = take-take d.result.0 6 bytes few in
    record {
      within = omega (arith, few, c.if-bytes-lt-ENOUGH.false);
      digits = subst (AllDigits 10) same d.ensures.digits;
      ends = λ low. ends_within bytes d.result.0 6 (omega (arith, low)) d.ensures.ends;
      value = λ low. d.ensures.value (omega (arith, low)) ∙ ap (digits_value 10) same;
    }
