use Rattle.line_text.proofs.Prelude.{◌∙◌, arith, take_rest, first_decimal}
use Rattle.line_text.proofs.Digits.{no_name, run_facts, run_found}
use Rattle.line_text.proofs.front.read_name.Goals as goal
use Rattle.line_text.proofs.front.read_name.Goals.{then-len-eq0-via-then-len-eq0, then-len-eq0-via-else-len-eq0+then-len-gt-NAME_DIGITS, then-len-eq0-via-else-len-eq0+else-len-gt-NAME_DIGITS+then-bytes-eq48}

pub returns-then-len-eq0 : goal.returns-then-len-eq0
returns-then-len-eq0 c name rest h =
    let n = c.name_digits-len in
    elim c.then-len-eq0.branch [
      | then-len-eq0-via-then-len-eq0 w ↦
          let f = run_facts c.args.bytes.now n.result.0 name rest (omega (arith, h.fits.1)) n.ensures.within n.ensures.digits (n.ensures.ends (omega arith)) h.ends h.is in
          omega (arith, f.0)
      | then-len-eq0-via-else-len-eq0+then-len-gt-NAME_DIGITS w ↦ no_name c.args.bytes.now n.result.0 name rest n.ensures.within n.ensures.digits (omega arith) h
      | then-len-eq0-via-else-len-eq0+else-len-gt-NAME_DIGITS+then-bytes-eq48 w ↦
          let f = run_facts c.args.bytes.now n.result.0 name rest (omega (arith, h.fits.1)) n.ensures.within n.ensures.digits (n.ensures.ends (omega arith)) h.ends h.is in
          omega (arith, f.2, first_decimal name (omega (arith, h.fits.0)) (omega (arith, h.fits.1)))
    ]

pub returns-then-number-gt-MAX_NAME : goal.returns-then-number-gt-MAX_NAME
returns-then-number-gt-MAX_NAME c name rest h =
    let n = c.name_digits-len in
    let f = run_facts c.args.bytes.now n.result.0 name rest (omega (arith, h.fits.1)) n.ensures.within n.ensures.digits (n.ensures.ends (omega arith)) h.ends h.is in
    omega (arith, f.3, n.ensures.value (omega arith), h.fits.1)

pub returns-in_default : goal.returns-in_default
returns-in_default c name rest h =
    let n = c.name_digits-len in
    let f = run_facts c.args.bytes.now n.result.0 name rest (omega (arith, h.fits.1)) n.ensures.within n.ensures.digits (n.ensures.ends (omega arith)) h.ends h.is in
    let v = n.ensures.value (omega arith) ∙ f.3 in
    c.in_default.ensures (omega (arith, h.fits.0, v), omega (arith, h.fits.1, v))

pub returns : goal.returns
returns c =
    let n = c.name_digits-len in
    let e = c.in-Some.ensures in
    let ends = n.ensures.ends (omega arith) in
    let is = run_found c.args.bytes.now n.result.0 c.in-Some.node n.ensures.within (omega arith) n.ensures.digits (λ e. omega (arith, e)) (e.1 ∙ n.ensures.value (omega arith)) (omega (arith, e.0.1, e.1)) in
    rw (take_rest c.args.bytes.now n.result.0) (record { fits = (omega (arith, e.0.0, e.1), omega (arith, e.0.1, e.1)); ends = ends; is = is })
