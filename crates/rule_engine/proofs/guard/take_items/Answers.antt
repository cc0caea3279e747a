use Rattle.rule_engine.proofs.Prelude.{◌≡◌, ◌+◌, cond, is_some, None, set, sym, ap, subst, ◌∙◌, length, true, Item, Outcome, is_in, refused_by, HasPlace}
use Rattle.rule_engine.proofs.NodeMarks.{passes, item_refused, item_placed, taken_more}
use Rattle.rule_engine.proofs.guard.take_items.Goals as goal

pub outcome_at-outcome-requires : goal.outcome_at-outcome-requires
outcome_at-outcome-requires g c = c.requires.judged c.loop-place.place c.index-items-place.result c.index-items-place.is

pub returns-in-Some-clause-refusal : goal.returns-in-Some-clause-refusal
returns-in-Some-clause-refusal g c =
    let item = c.index-items-place.result in
    let marks = c.loop-place.chosen in
    item_refused g.R.Rules.table c.args.state.now.state c.args.items.now c.loop-place.place item (is_in marks item.node) c.in-Some.refusal c.loop-place-test.true c.index-items-place.is
    (ap (λ (o : Outcome). refused_by o (is_in marks item.node)) (sym c.outcome_at-outcome.ensures) ∙ sym c.take_outcome.ensures.refusal ∙ c.in-Some.is) (c.loop-place.invariant.marks item.node)
    ∙ c.loop-place.invariant.taken.rest

pub loop-place-preserved : goal.loop-place-preserved
loop-place-preserved g c =
    let t = g.R.Rules.table in
    let s = c.args.state.now.state in
    let item = c.index-items-place.result in
    let marks = c.loop-place.chosen in
    let none : c.take_outcome.result ≡ None = c.in_default.is in
    let made : c.take_outcome.new.chosen ≡ set marks item.node true = c.take_outcome.ensures.marks ∙ ap (λ o. cond (is_some o) marks (set marks item.node true)) none in
    let places : length marks ≡ s.network.size + 1 = c.loop-place.invariant.len ∙ c.requires.places in
    let placed = subst (HasPlace (length marks) item.node) (sym c.outcome_at-outcome.ensures) (item_placed t s item (length marks) places) in
    let next = passes (λ (i : Item). i.node) c.args.items.now c.loop-place.place item c.outcome_at-outcome.result marks c.take_outcome.new.chosen c.loop-place-test.true c.index-items-place.is placed (sym c.take_outcome.ensures.refusal ∙ none) made c.loop-place.invariant.marks in
    record {
      taken = taken_more t s _ _ _ _ _ _ _ _ c.loop-place-test.true c.index-items-place.is c.outcome_at-outcome.ensures next.accepted (c.take_outcome.ensures.whole none) (c.take_outcome.ensures.moves none) c.loop-place.invariant.taken;
      marks = next.marks;
      len = next.len ∙ c.loop-place.invariant.len;
    }
