use Rattle.enabled_set.proofs.Prelude.{◌≡◌, ◌-◌, ◌/◌, ◌<◌, true, false, length, set, arith, ap, sym, ◌∙◌, is_in, is_bit_on, first_bits, HasRightCounts}
use Rattle.enabled_set.proofs.Members.{inside}
use Rattle.enabled_set.proofs.Stretches.{count_some}
use Rattle.enabled_set.proofs.Changes.{bit_read, count_read, counted_put}
use Rattle.enabled_set.proofs.PassCounts.{tally_through}
use Rattle.enabled_set.proofs.set.EnabledSet.remove.Goals as goal
use Rattle.enabled_set.proofs.set.EnabledSet.remove.Goals.{After-look, After-index_mut-3}

-- whether the name is a member is what was looked up
looked : (c : After-look) → is_in (first_bits c.self.inside.len c.self.inside.words.items) c.place-place.result ≡ c.look.result
looked c = c.self.invariant.same c.place-place.result ∙ ap (λ words. is_bit_on words c.place-place.result) (sym c.deref.ensures.value) ∙ sym c.look.ensures

-- a member has a place
there : (c : After-look) → c.look.result ≡ true → c.place-place.result < length (first_bits c.self.inside.len c.self.inside.words.items)
there c on = inside (first_bits c.self.inside.len c.self.inside.words.items) c.place-place.result (looked c ∙ on)

-- what is written counts the set without it
put : (c : After-index_mut-3) → c.place-place.result < length (first_bits c.self.inside.len c.self.inside.words.items) → is_in (first_bits c.self.inside.len c.self.inside.words.items) c.place-place.result ≡ true → HasRightCounts (first_bits c.self.inside.len (set c.self.inside.words.items (c.place-place.result / 64) c.without_bit.result)) (set c.self.inside.words.items (c.place-place.result / 64) c.without_bit.result) (set c.self.inside.by_512.items (c.place-place.result / 512) (c.index_mut-2.result.now - 1)) (set c.self.inside.by_4096.items (c.place-place.result / 4096) (c.index_mut-3.result.now - 1)) (c.self.inside.total - 1) × (first_bits c.self.inside.len (set c.self.inside.words.items (c.place-place.result / 64) c.without_bit.result) ≡ set (first_bits c.self.inside.len c.self.inside.words.items) c.place-place.result false)
put c place on =
    let it = c.self.inside in
    counted_put it.len it.words.items it.by_512.items it.by_4096.items it.total c.place-place.result c.index-word.result.now c.without_bit.result c.index_mut-2.result.now _ c.index_mut-3.result.now _ _ true false c.self.invariant place c.place-place.ensures.named.0 c.index-word.ensures (sym (bit_read (first_bits it.len it.words.items) it.words.items it.by_512.items it.by_4096.items it.total c.place-place.result c.index-word.result.now c.self.invariant place c.index-word.ensures) ∙ on) c.without_bit.ensures.here c.without_bit.ensures.others c.index_mut-2.ensures.value (omega arith) c.index_mut-3.ensures.value (omega arith) (omega arith)

pub overflow_sub-index_mut : goal.overflow_sub-index_mut
overflow_sub-index_mut c =
    let it = c.self.inside in
    let bits = first_bits it.len it.words.items in
    let at = (goal.at.overflow_sub-index_mut c).After-look in
    let place = there at c.if-not-look.false in
    let on = looked at ∙ c.if-not-look.false in
    let is = count_read bits 512 it.by_512.items c.place-place.result c.index_mut-2.result.now (omega arith) c.self.invariant.in_512 place c.index_mut-2.ensures.value in
    omega (arith, is, count_some bits 512 it.by_512.items c.place-place.result (omega arith) c.self.invariant.in_512 on)

pub overflow_sub-index_mut-2 : goal.overflow_sub-index_mut-2
overflow_sub-index_mut-2 c =
    let it = c.self.inside in
    let bits = first_bits it.len it.words.items in
    let at = (goal.at.overflow_sub-index_mut-2 c).After-look in
    let place = there at c.if-not-look.false in
    let on = looked at ∙ c.if-not-look.false in
    let is = count_read bits 4096 it.by_4096.items c.place-place.result c.index_mut-3.result.now (omega arith) c.self.invariant.in_4096 place c.index_mut-3.ensures.value in
    omega (arith, is, count_some bits 4096 it.by_4096.items c.place-place.result (omega arith) c.self.invariant.in_4096 on)

pub overflow_sub-self : goal.overflow_sub-self
overflow_sub-self c =
    let at = (goal.at.overflow_sub-self c).After-look in
    let place = there at c.if-not-look.false in
    let on = looked at ∙ c.if-not-look.false in
    omega (arith, tally_through (is_in (first_bits c.self.inside.len c.self.inside.words.items)) 0 c.place-place.result (length (first_bits c.self.inside.len c.self.inside.words.items)) on (omega arith) place)

pub invariant_of-self : goal.invariant_of-self
invariant_of-self c = let at = goal.at.invariant_of-self c in (put at.After-index_mut-3 (there at.After-look c.if-not-look.false) (looked at.After-look ∙ c.if-not-look.false)).0

pub returns : goal.returns
returns c =
    let at = goal.at.returns c in
    (put at.After-index_mut-3 (there at.After-look c.if-not-look.false) (looked at.After-look ∙ c.if-not-look.false)).1 ∙ ap (λ v. set (first_bits c.self.inside.len c.self.inside.words.items) v false) c.place-place.ensures.same ∙ ap (λ xs. set xs c.args.v false) c.self.view_is
