use Rattle.reply_checker.proofs.Prelude.{◌∙◌, sym, arith, true≢false, table_of, AreRising, ruled_node}
use Rattle.reply_checker.proofs.AscendingLists.{rise_more, rise_not, rise_end}
use Rattle.reply_checker.proofs.questions.are_ruled.Goals as goal
use Rattle.reply_checker.proofs.questions.are_ruled.Goals.{then-name-last-via-then-name-last, then-name-last-via-else-name-last+then-not-has_rule}

pub loop-item-preserved : goal.loop-item-preserved
loop-item-preserved c =
    let f = ruled_node (table_of c.args.counted.now.shares.rules) c.args.counted.now.net.state in
    let given = c.args.given.now in
    rise_more (AreRising f 0 given) f given c.loop-item.item-index c.loop-item.last c.name-last.result c.item-item.result c.loop-item-test.true c.item-item.is c.name-last.ensures.same (omega (arith, c.name.ensures.same, c.name-last.ensures.same, c.if-name-last.false)) (c.has_rule.ensures.0 c.if-not-has_rule.false) c.loop-item.invariant

pub returns-then-name-last : goal.returns-then-name-last
returns-then-name-last c =
    let f = ruled_node (table_of c.args.counted.now.shares.rules) c.args.counted.now.net.state in
    let given = c.args.given.now in
    let not = rise_not (AreRising f 0 given) f given c.loop-item.item-index c.loop-item.last c.item-item.result c.loop-item-test.true c.item-item.is in
    elim c.then-name-last.branch [
      | then-name-last-via-then-name-last w ↦ (λ e. absurd cc, λ up. absurd (not (λ above told. omega (arith, c.name.ensures.same, above, w.if-name-last.true)) c.loop-item.invariant up))
      | then-name-last-via-else-name-last+then-not-has_rule w ↦ (λ e. absurd cc, λ up. absurd (not (λ above told. true≢false (sym (w.has_rule.ensures.1 told) ∙ w.if-not-has_rule.true)) c.loop-item.invariant up))
    ]

pub returns : goal.returns
returns c =
    let f = ruled_node (table_of c.args.counted.now.shares.rules) c.args.counted.now.net.state in
    let given = c.args.given.now in
    (λ e. rise_end (AreRising f 0 given) f given c.loop-item.item-index c.loop-item.last c.loop-item-test.false c.loop-item.invariant, λ up. cc)
