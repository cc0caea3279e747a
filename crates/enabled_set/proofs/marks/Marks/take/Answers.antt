use Rattle.enabled_set.proofs.Prelude.{◌-◌, ◌∙◌, ℕ, false, set, sym, ap, subst, arith, is_in, true≢false, AreListed}
use Rattle.enabled_set.proofs.MarkChanges.{all_listed, at_end, none_marked}
use Rattle.enabled_set.proofs.marks.Marks.take.Goals as goal

pub returns-then-self-eq0-clause-none : goal.returns-then-self-eq0-clause-none
returns-then-self-eq0-clause-none c = λ none v.
    ap (λ l. is_in l v) (sym c.self.view_is) ∙ none_marked c.self.inside.is_marked.items c.self.inside.names.items c.self.inside.count v c.if-self-eq0.true c.self.invariant.0

pub index-v-requires : goal.index-v-requires
index-v-requires c =
    let most = all_listed c.self.inside.is_marked.items c.self.inside.names.items c.self.inside.count c.self.invariant.0 in
    omega (arith, most, c.if-self-eq0.false, c.self.invariant.0.room)

pub index_mut-requires : goal.index_mut-requires
index_mut-requires c =
    let last = at_end c.self.inside.is_marked.items c.self.inside.names.items c.self.inside.count c.index-v.result.now (omega (arith, c.if-self-eq0.false)) c.index-v.ensures c.self.invariant.0 in
    omega (arith, last.there, c.place.ensures.same)

pub invariant_of-self : goal.invariant_of-self
invariant_of-self c =
    let bits = c.self.inside.is_marked.items in
    let names = c.self.inside.names.items in
    let count = c.self.inside.count in
    let last = at_end bits names count c.index-v.result.now (omega (arith, c.if-self-eq0.false)) c.index-v.ensures c.self.invariant.0 in
    (subst (λ (v : ℕ). AreListed (set bits v false) names (count - 1)) (sym c.place.ensures.same) last.less, λ all. absurd (true≢false (sym all)))

pub returns-clause-some : goal.returns-clause-some
returns-clause-some c =
    let last = at_end c.self.inside.is_marked.items c.self.inside.names.items c.self.inside.count c.index-v.result.now (omega (arith, c.if-self-eq0.false)) c.index-v.ensures c.self.invariant.0 in
    ap (λ l. is_in l c.index-v.result.now) (sym c.self.view_is) ∙ last.marked
