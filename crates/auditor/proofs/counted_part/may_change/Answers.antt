use Rattle.auditor.proofs.Prelude.{◌∙◌, arith}
use Rattle.auditor.proofs.NextCosts.{accepted_end, changed_mark}
use Rattle.auditor.proofs.counted_part.may_change.Goals as goal

pub returns : goal.returns
returns c number entry spells changed =
    c.has_colon.ensures
    ∙ changed_mark c.args.line.now number entry spells changed (λ told.
    let end = accepted_end c.args.line.now number entry spells told in
    let value = c.ends_with.ensures.value in
    let no = c.if-ends_with.false in
    grind arith)
