use Rattle.reply_checker.proofs.Prelude.{◌∙◌, ap₂, sym, true≢false, points}
use Rattle.reply_checker.proofs.AscendingLists.{told_back, told_apart}
use Rattle.reply_checker.proofs.questions.is_mutual.Goals as goal

pub returns-then-points : goal.returns-then-points
returns-then-points c =
    let s = c.args.net.now.state in
    let there = ap₂ (points s.registers) (sym c.low-low.ensures.value) (sym c.high-high.ensures.value) ∙ sym c.points.ensures ∙ c.if-points.true in
    let back = c.points-then-points.ensures ∙ ap₂ (points s.registers) c.high-high.ensures.value c.low-low.ensures.value in
    told_back s c.args.pair.0 c.args.pair.1 c.points-then-points.result c.registers.ensures.sound c.low-low.ensures.below there back

pub returns-else-points : goal.returns-else-points
returns-else-points c =
    let s = c.args.net.now.state in
    let apart = ap₂ (points s.registers) (sym c.low-low.ensures.value) (sym c.high-high.ensures.value) ∙ sym c.points.ensures ∙ c.if-points.false in
    (λ yes. absurd (true≢false (sym yes ∙ c.if-points.false)), λ told. absurd (told_apart s c.args.pair.0 c.args.pair.1 apart told))
