use Rattle.steal_pool.proofs.Prelude.{◌≡◌, List, ℕ, length, sym, subst, ap, ◌∙◌, arith, EndView, end_hold, end_taken, verdicts_of, AreOf, StandOnce, places_of}
use Rattle.steal_pool.proofs.EachPlace.{some_stand, judges_its_places}
use Rattle.steal_pool.proofs.VerdictTables.{as_many, more_taken}
use Rattle.steal_pool.proofs.hand.Hand.work.Goals as goal

pub judge_block-requires-clause-room : goal.judge_block-requires-clause-room
judge_block-requires-clause-room g c =
    let loop = c.loop-block.invariant in
    let count = ap (λ (h : EndView). h.count) loop.hold ∙ c.requires.choice in
    omega (arith, loop.room, c.in-Some.ensures.within, as_many _ (end_taken c.loop-block.end) c.loop-block.verdicts.items loop.judged, more_taken (end_taken c.loop-block.end) (end_taken c.take.new.self) c.in-Some.block c.in-Some.ensures.taken)

pub loop-block-preserved : goal.loop-block-preserved
loop-block-preserved g c =
    let loop = c.loop-block.invariant in
    record {
      hold = c.in-Some.ensures.hold ∙ loop.hold;
      judged = subst (λ (l : List ℕ). AreOf (verdicts_of g.R.Rules.table c.args.net.now.state c.args.choice.now) l c.judge_block.new.verdicts.items) (sym c.in-Some.ensures.taken) (c.judge_block.ensures.judged (end_taken c.loop-block.end) loop.judged);
      once = subst (λ (n : ℕ). StandOnce n (end_taken c.take.new.self)) (ap (λ (h : EndView). h.count) loop.hold ∙ c.requires.choice) (some_stand (end_hold c.loop-block.end).count (end_taken c.take.new.self) c.in-Some.ensures.once);
      room = omega (arith, loop.room, c.judge_block.ensures.room);
    }

pub invariant_of-result : goal.invariant_of-result
invariant_of-result g c =
    let loop = c.loop-block.invariant in
    let kept = c.in_default.ensures in
    let at : places_of c.shrink_to_fit.new.self.items ≡ end_taken c.loop-block.end = ap places_of c.shrink_to_fit.ensures.items ∙ judges_its_places g.R.Rules.table c.args.net.now.state c.args.choice.now (end_taken c.loop-block.end) c.loop-block.verdicts.items loop.judged in
    let count : length c.args.choice.now ≡ (end_hold c.take.new.self).count = sym (ap (λ (h : EndView). h.count) (kept.hold ∙ loop.hold) ∙ c.requires.choice) in
    record {
      taken = at ∙ sym kept.taken;
      once = subst (λ (n : ℕ). StandOnce n (places_of c.shrink_to_fit.new.self.items)) count (subst (StandOnce (length c.args.choice.now)) (sym at) loop.once);
    }

pub returns-clause-once : goal.returns-clause-once
returns-clause-once g c =
    let loop = c.loop-block.invariant in
    let at : places_of c.shrink_to_fit.new.self.items ≡ end_taken c.loop-block.end = ap places_of c.shrink_to_fit.ensures.items ∙ judges_its_places g.R.Rules.table c.args.net.now.state c.args.choice.now (end_taken c.loop-block.end) c.loop-block.verdicts.items loop.judged in
    subst (StandOnce (length c.args.choice.now)) (sym at) loop.once
