use Rattle.enabled_set.proofs.Prelude.{◌+◌, ◌<◌, ◌∙◌, ℕ, true, false, length, set, sym, ap, subst, arith, get_or_read, true≢false, is_in, AreListed}
use Rattle.enabled_set.proofs.Changes.{put_same}
use Rattle.enabled_set.proofs.MarkChanges.{one_listed_more, room_left}
use Rattle.enabled_set.proofs.marks.Marks.mark.Goals as goal

pub index_mut-requires-2 : goal.index_mut-requires-2
index_mut-requires-2 c =
    let bits = c.self.inside.is_marked.items in
    let there : c.place-place.result < length bits = omega (arith, ap length c.self.view_is, c.requires, c.place-place.ensures.same) in
    let space = room_left bits c.self.inside.names.items c.self.inside.count c.place-place.result c.self.invariant.0 there (sym (get_or_read bits c.place-place.result c.index.result.now there c.index.ensures false) ∙ c.if-index.false) in
    omega (arith, space, c.self.invariant.0.room)

pub overflow_add-self : goal.overflow_add-self
overflow_add-self c =
    let bits = c.self.inside.is_marked.items in
    let there : c.place-place.result < length bits = omega (arith, ap length c.self.view_is, c.requires, c.place-place.ensures.same) in
    let space = room_left bits c.self.inside.names.items c.self.inside.count c.place-place.result c.self.invariant.0 there (sym (get_or_read bits c.place-place.result c.index.result.now there c.index.ensures false) ∙ c.if-index.false) in
    omega (arith, space, c.self.invariant.0.few)

pub invariant_of-self : goal.invariant_of-self
invariant_of-self c =
    let bits = c.self.inside.is_marked.items in
    let names = c.self.inside.names.items in
    let count = c.self.inside.count in
    let there : c.place-place.result < length bits = omega (arith, ap length c.self.view_is, c.requires, c.place-place.ensures.same) in (
      subst (λ (v : ℕ). AreListed (set bits c.place-place.result true) (set names count v) (count + 1)) c.place-place.ensures.same
          (one_listed_more bits names count c.place-place.result c.self.invariant.0 there (sym (get_or_read bits c.place-place.result c.index.result.now there c.index.ensures false) ∙ c.if-index.false)),
      λ all. absurd (true≢false (sym all ∙ c.if-self.false)),
    )

pub returns-then-self : goal.returns-then-self
returns-then-self c =
    let named = c.place-place.ensures in
    let on = c.self.invariant.1 c.if-self.true c.args.v (omega (arith, named.same, named.named)) (subst (λ l. c.args.v < length l) (sym c.self.view_is) c.requires) in
    put_same c.args.self.now c.args.v true (ap (λ l. is_in l c.args.v) (sym c.self.view_is) ∙ on)
