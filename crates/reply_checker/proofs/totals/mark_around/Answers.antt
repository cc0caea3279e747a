use Rattle.reply_checker.proofs.Prelude.{◌∙◌, ℕ, IsTrue, length, ap, subst, sym, arith, is_in, present, present_range}
use Rattle.reply_checker.proofs.AskingNeighbours.{asking_end, asking_first, asking_next, asking_none, is_marked}
use Rattle.reply_checker.proofs.totals.mark_around.Goals as goal
use Rattle.reply_checker.proofs.totals.mark_around.Goals.{then-asks, else-asks}

pub returns-then-not-has : goal.returns-then-not-has
returns-then-not-has c = asking_none c.args.net.now.state c.args.v c.args.due.now c.mark.new.self c.registers.ensures.sound (sym c.has.ensures ∙ c.if-not-has.true) (is_marked c.args.due.now c.mark.new.self c.args.v (omega (arith, c.requires.within, c.requires.places)) c.mark.ensures)

pub loop-w-init : goal.loop-w-init
loop-w-init c = asking_first c.args.net.now.state c.args.v c.args.due.now c.mark.new.self c.neighbours-w-items.result.now c.registers.ensures.sound (is_marked c.args.due.now c.mark.new.self c.args.v (omega (arith, c.requires.within, c.requires.places)) c.mark.ensures) c.neighbours-w-items.ensures.all

pub mark-requires-then-asks : goal.mark-requires-then-asks
mark-requires-then-asks c =
    let net = c.args.net.now.state.network in
    let here = subst (λ (x : ℕ). IsTrue (present net x)) (sym c.w-item.is) (c.neighbours-w-items.ensures.present c.loop-w.w-index c.w-item.result c.loop-w-test.true) in
    let within = present_range net c.w-item.result here in
    omega (arith, within.1, c.loop-w.invariant.places, c.requires.places)

pub loop-w-preserved : goal.loop-w-preserved
loop-w-preserved c =
    let s = c.args.net.now.state in
    let v = c.args.v in
    let w = c.w-item.result in
    let here = subst (λ (x : ℕ). IsTrue (present s.network x)) (sym c.w-item.is) (c.neighbours-w-items.ensures.present c.loop-w.w-index w c.loop-w-test.true) in
    let within = present_range s.network w here in
    elim c.if-asks.branch [
      | then-asks x ↦
          let marked = is_marked c.loop-w.due x.mark-then-asks.new.self w (omega (arith, within.1, c.loop-w.invariant.places, c.requires.places)) x.mark-then-asks.ensures in
          asking_next s v c.args.due.now c.loop-w.due c.if-asks.due c.neighbours-w-items.result.now c.loop-w.w-index w c.loop-w-test.true c.w-item.is (ap length x.due-is ∙ marked.places)
          (λ y none. let fact = marked.others y (ap (λ l. is_in l y) (sym x.due-is) ∙ none) in (fact.0, λ same. absurd (fact.1 same))) c.loop-w.invariant
      | else-asks x ↦
          asking_next s v c.args.due.now c.loop-w.due c.if-asks.due c.neighbours-w-items.result.now c.loop-w.w-index w c.loop-w-test.true c.w-item.is (ap length x.due-is)
          (λ y none. (ap (λ l. is_in l y) (sym x.due-is) ∙ none, λ same. sym c.asks.ensures ∙ x.if-asks.false)) c.loop-w.invariant
    ]

pub returns : goal.returns
returns c = asking_end c.args.net.now.state c.args.v c.args.due.now c.loop-w.due c.neighbours-w-items.result.now c.loop-w.w-index c.loop-w-test.false c.loop-w.invariant
