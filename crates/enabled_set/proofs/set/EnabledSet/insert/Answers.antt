use Rattle.enabled_set.proofs.Prelude.{◌≡◌, ◌+◌, ◌/◌, ◌<◌, true, false, length, set, arith, ap, sym, ◌∙◌, first_bits, HasRightCounts}
use Rattle.enabled_set.proofs.Stretches.{count_few}
use Rattle.enabled_set.proofs.Changes.{count_read, bit_read, put_same, total_few, counted_put}
use Rattle.enabled_set.proofs.set.EnabledSet.insert.Goals as goal
use Rattle.enabled_set.proofs.set.EnabledSet.insert.Goals.{After-bit_is_set, After-index_mut-3}

-- the name has a place
there : (c : After-bit_is_set) → c.place-place.result < length (first_bits c.self.inside.len c.self.inside.words.items)
there c = omega (arith, ap length c.self.view_is)

-- what is written counts the set with it
put : (c : After-index_mut-3) → c.place-place.result < length (first_bits c.self.inside.len c.self.inside.words.items) → HasRightCounts (first_bits c.self.inside.len (set c.self.inside.words.items (c.place-place.result / 64) c.with_bit.result)) (set c.self.inside.words.items (c.place-place.result / 64) c.with_bit.result) (set c.self.inside.by_512.items (c.place-place.result / 512) (c.index_mut-2.result.now + 1)) (set c.self.inside.by_4096.items (c.place-place.result / 4096) (c.index_mut-3.result.now + 1)) (c.self.inside.total + 1) × (first_bits c.self.inside.len (set c.self.inside.words.items (c.place-place.result / 64) c.with_bit.result) ≡ set (first_bits c.self.inside.len c.self.inside.words.items) c.place-place.result true)
put c place =
    let it = c.self.inside in
    counted_put it.len it.words.items it.by_512.items it.by_4096.items it.total c.place-place.result c.index-word.result.now c.with_bit.result c.index_mut-2.result.now _ c.index_mut-3.result.now _ _ false true c.self.invariant place c.place-place.ensures.named.0 c.index-word.ensures (sym c.bit_is_set.ensures ∙ c.if-bit_is_set.false) c.with_bit.ensures.here c.with_bit.ensures.others c.index_mut-2.ensures.value (omega arith) c.index_mut-3.ensures.value (omega arith) (omega arith)

pub returns-then-bit_is_set : goal.returns-then-bit_is_set
returns-then-bit_is_set c =
    let it = c.self.inside in
    let bits = first_bits it.len it.words.items in
    let is = bit_read bits it.words.items it.by_512.items it.by_4096.items it.total c.place-place.result c.index-word.result.now c.self.invariant (there (goal.at.returns-then-bit_is_set c).After-bit_is_set) c.index-word.ensures ∙ sym c.bit_is_set.ensures ∙ c.if-bit_is_set.true in
    sym c.self.view_is ∙ put_same bits c.place-place.result true is ∙ ap (λ v. set bits v true) c.place-place.ensures.same ∙ ap (λ xs. set xs c.args.v true) c.self.view_is

pub overflow_add-index_mut : goal.overflow_add-index_mut
overflow_add-index_mut c =
    let it = c.self.inside in
    let bits = first_bits it.len it.words.items in
    let is = count_read bits 512 it.by_512.items c.place-place.result c.index_mut-2.result.now (omega arith) c.self.invariant.in_512 (there (goal.at.overflow_add-index_mut c).After-bit_is_set) c.index_mut-2.ensures.value in
    omega (arith, is, count_few bits 512 it.by_512.items (c.place-place.result / 512) c.self.invariant.in_512)

pub overflow_add-index_mut-2 : goal.overflow_add-index_mut-2
overflow_add-index_mut-2 c =
    let it = c.self.inside in
    let bits = first_bits it.len it.words.items in
    let is = count_read bits 4096 it.by_4096.items c.place-place.result c.index_mut-3.result.now (omega arith) c.self.invariant.in_4096 (there (goal.at.overflow_add-index_mut-2 c).After-bit_is_set) c.index_mut-3.ensures.value in
    omega (arith, is, count_few bits 4096 it.by_4096.items (c.place-place.result / 4096) c.self.invariant.in_4096)

pub overflow_add-self : goal.overflow_add-self
overflow_add-self c = omega (arith, total_few (first_bits c.self.inside.len c.self.inside.words.items))

pub invariant_of-self : goal.invariant_of-self
invariant_of-self c = let at = goal.at.invariant_of-self c in (put at.After-index_mut-3 (there at.After-bit_is_set)).0

pub returns : goal.returns
returns c =
    let at = goal.at.returns c in
    (put at.After-index_mut-3 (there at.After-bit_is_set)).1 ∙ ap (λ v. set (first_bits c.self.inside.len c.self.inside.words.items) v true) c.place-place.ensures.same ∙ ap (λ xs. set xs c.args.v true) c.self.view_is
