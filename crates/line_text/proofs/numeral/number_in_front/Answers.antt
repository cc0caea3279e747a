use Rattle.line_text.proofs.Prelude.{◌≡◌, ◌≤◌, get_or, arith, take_rest}
use Rattle.line_text.proofs.FewDigits.{number_facts_in, number_found}
use Rattle.line_text.proofs.numeral.number_in_front.Goals as goal
use Rattle.line_text.proofs.numeral.number_in_front.Goals.{then-len-eq0-via-then-len-eq0, then-len-eq0-via-else-len-eq0+then-len-gt-FEW_DIGITS, else-bytes-eq48-via-then-bytes-eq48+else-len-gt1, else-bytes-eq48-via-else-bytes-eq48}

pub returns-then-len-eq0 : goal.returns-then-len-eq0
returns-then-len-eq0 c n rest h =
    let d = c.digits_in_front-len in
    let f = number_facts_in c.args.bytes.now d.result.0 n rest d.ensures.within d.ensures.digits d.ensures.ends h in
    elim c.then-len-eq0.branch [
      | then-len-eq0-via-then-len-eq0 w ↦ omega (arith, f.0)
      | then-len-eq0-via-else-len-eq0+then-len-gt-FEW_DIGITS w ↦ omega (arith, f.1)
    ]

pub returns-then-len-gt1 : goal.returns-then-len-gt1
returns-then-len-gt1 c n rest h =
    let d = c.digits_in_front-len in
    let f = number_facts_in c.args.bytes.now d.result.0 n rest d.ensures.within d.ensures.digits d.ensures.ends h in
    omega (arith, f.2 c.if-bytes-eq48.true)

pub returns : goal.returns
returns c =
    let bytes = c.args.bytes.now in
    let d = c.digits_in_front-len in
    let small : get_or bytes 0 0 ≡ 48 → d.result.0 ≤ 1 = λ z. elim c.else-bytes-eq48.branch [
      | else-bytes-eq48-via-then-bytes-eq48+else-len-gt1 w ↦ omega arith
      | else-bytes-eq48-via-else-bytes-eq48 w ↦ absurd (w.if-bytes-eq48.false z)
    ] in
    rw (take_rest bytes d.result.0) (number_found bytes d.result.0 d.result.1 d.ensures.within (omega arith) (omega arith) d.ensures.digits d.ensures.ends small (d.ensures.value (omega arith)))
