use Rattle.script_text.proofs.Prelude.{◌≡◌, ◌∙◌, [], ap, arith, lines_of}
use Rattle.script_text.proofs.LineEnds.{lines_of-ended, lines_of-whole}
use Rattle.script_text.proofs.lines.next_line.Goals as goal

pub returns-in-Some-clause-lines : goal.returns-in-Some-clause-lines
returns-in-Some-clause-lines c =
    let first = c.in-Some.ensures.line in
    ap lines_of first.1 ∙ lines_of-ended c.in-Some.found.0.now c.in-Some.found.1.now first.0

pub returns-in-None-clause-lines : goal.returns-in-None-clause-lines
returns-in-None-clause-lines c =
    let some : c.args.bytes.now ≡ [] → ⊥ = λ h. absurd (grind arith) in
    lines_of-whole c.args.bytes.now some c.in-None.ensures.line
