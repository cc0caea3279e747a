use Rattle.reply_checker.proofs.Prelude.{◌≡◌, ◌∙◌, sym, arith, true≢false, AreRising, lower_end_pair}
use Rattle.reply_checker.proofs.AscendingLists.{rise_more, rise_not, rise_end}
use Rattle.reply_checker.proofs.questions.are_pairs.Goals as goal
use Rattle.reply_checker.proofs.questions.are_pairs.Goals.{then-low-last-via-then-low-last, then-low-last-via-else-low-last+then-not-is_mutual}

pub loop-pair-preserved : goal.loop-pair-preserved
loop-pair-preserved c =
    let f = lower_end_pair c.args.net.now.state in
    let given = c.args.given.now in
    rise_more (AreRising f 0 given) f given c.loop-pair.pair-index c.loop-pair.last c.name-low.result c.pair-item.result c.loop-pair-test.true c.pair-item.is (c.name-low.ensures.same ∙ c.low.ensures.value) c.if-low-last.false (c.is_mutual.ensures.0 c.if-not-is_mutual.false) c.loop-pair.invariant

pub returns-then-low-last : goal.returns-then-low-last
returns-then-low-last c =
    let f = lower_end_pair c.args.net.now.state in
    let given = c.args.given.now in
    let name : c.name-low.result ≡ c.pair-item.result.0 = c.name-low.ensures.same ∙ c.low.ensures.value in
    let not = rise_not (AreRising f 0 given) f given c.loop-pair.pair-index c.loop-pair.last c.pair-item.result c.loop-pair-test.true c.pair-item.is in
    elim c.then-low-last.branch [
      | then-low-last-via-then-low-last w ↦ (λ e. absurd cc, λ up. absurd (not (λ above told. omega (arith, name, above, w.if-low-last.true)) c.loop-pair.invariant up))
      | then-low-last-via-else-low-last+then-not-is_mutual w ↦ (λ e. absurd cc, λ up. absurd (not (λ above told. true≢false (sym (w.is_mutual.ensures.1 told) ∙ w.if-not-is_mutual.true)) c.loop-pair.invariant up))
    ]

pub returns : goal.returns
returns c =
    let f = lower_end_pair c.args.net.now.state in
    let given = c.args.given.now in
    (λ e. rise_end (AreRising f 0 given) f given c.loop-pair.pair-index c.loop-pair.last c.loop-pair-test.false c.loop-pair.invariant, λ up. cc)
