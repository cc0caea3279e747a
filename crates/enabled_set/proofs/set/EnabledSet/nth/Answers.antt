use Rattle.enabled_set.proofs.Prelude.{◌≡◌, ◌≤◌, ◌<◌, get_or, length, ap, sym, subst, ◌∙◌, arith, get_or_read, SomeIff, members, has_bit, first_bits, tally}
use Rattle.std.proofs.Common.{slice_get}
use Rattle.enabled_set.proofs.Nth.{enough_lots, enough_groups, enough_words, passed, nth_none, nth_some}
use Rattle.enabled_set.proofs.set.EnabledSet.nth.Goals as goal
use Rattle.enabled_set.proofs.set.EnabledSet.nth.Goals.{After-pass_words-spot, After-index}

-- the word that the last scan found exists
there : (c : After-pass_words-spot) → c.pass_words-spot.result.place < length c.self.inside.words.items
there c =
    let it = c.self.inside in
    let room = enough_words (first_bits it.len it.words.items) it.words.items it.by_512.items it.by_4096.items c.deref-2.result.now c.deref-3.result.now it.total c.pass_in_8-group.result.place c.pass_in_8-group.result.left c.self.invariant c.deref-2.ensures.value c.deref-3.ensures.value c.pass_in_8-group.ensures.here in
    omega (arith, room.0, ap length c.deref-3.ensures.value, c.pass_words-spot.ensures.near)

-- and it is what was read
read : (c : After-index) → c.pass_words-spot.result.place < length c.self.inside.words.items → c.index.result.now ≡ get_or c.self.inside.words.items c.pass_words-spot.result.place 0
read c within = get_or_read c.self.inside.words.items c.pass_words-spot.result.place c.index.result.now within c.index.ensures 0

pub pass_in_16-lot-requires : goal.pass_in_16-lot-requires
pass_in_16-lot-requires c =
    let lots = enough_lots (first_bits c.self.inside.len c.self.inside.words.items) c.self.inside.words.items c.self.inside.by_512.items c.self.inside.by_4096.items c.deref.result.now c.self.inside.total c.args.k c.self.invariant c.deref.ensures.value c.if-k-self.false in
    record { room = lots.0; enough = lots.1 }

pub pass_in_8-group-requires : goal.pass_in_8-group-requires
pass_in_8-group-requires c =
    let groups = enough_groups (first_bits c.self.inside.len c.self.inside.words.items) c.self.inside.words.items c.self.inside.by_512.items c.self.inside.by_4096.items c.deref.result.now c.deref-2.result.now c.self.inside.total c.pass_in_16-lot.result.place c.pass_in_16-lot.result.left c.self.invariant c.deref.ensures.value c.deref-2.ensures.value c.pass_in_16-lot.ensures.here in
    record { room = groups.0; near = omega (arith, c.pass_in_16-lot.ensures.near); enough = groups.1 }

pub pass_words-spot-requires : goal.pass_words-spot-requires
pass_words-spot-requires c =
    let words = enough_words (first_bits c.self.inside.len c.self.inside.words.items) c.self.inside.words.items c.self.inside.by_512.items c.self.inside.by_4096.items c.deref-2.result.now c.deref-3.result.now c.self.inside.total c.pass_in_8-group.result.place c.pass_in_8-group.result.left c.self.invariant c.deref-2.ensures.value c.deref-3.ensures.value c.pass_in_8-group.ensures.here in
    record { room = words.0; near = omega (arith, c.pass_in_16-lot.ensures.near, c.pass_in_8-group.ensures.near); enough = words.1 }

pub returns-then-k-self : goal.returns-then-k-self
returns-then-k-self c = sym (ap (λ bits. slice_get (members bits) c.args.k) (sym c.self.view_is) ∙ nth_none (first_bits c.self.inside.len c.self.inside.words.items) c.self.inside.words.items c.self.inside.by_512.items c.self.inside.by_4096.items c.self.inside.total c.args.k c.self.invariant c.if-k-self.true)

pub index-requires : goal.index-requires
index-requires c = omega (arith, there (goal.at.index-requires c).After-pass_words-spot, c.deref-3.ensures.len, ap length c.deref-3.ensures.value)

pub find_bit-at-requires : goal.find_bit-at-requires
find_bit-at-requires c =
    let at = goal.at.find_bit-at-requires c in
    subst (λ word. c.pass_words-spot.result.left < tally (has_bit word) 64) (ap (λ words. get_or words c.pass_words-spot.result.place 0) c.deref-3.ensures.value ∙ sym (read at.After-index (there at.After-pass_words-spot))) c.pass_words-spot.ensures.here

pub returns : goal.returns
returns c =
    let at = goal.at.returns c in
    let it = c.self.inside in
    let bits = first_bits it.len it.words.items in
    let reached = passed bits it.words.items it.by_512.items it.by_4096.items c.deref.result.now c.deref-2.result.now c.deref-3.result.now it.total c.args.k c.pass_in_16-lot.result.place c.pass_in_16-lot.result.left c.pass_in_8-group.result.place c.pass_in_8-group.result.left c.pass_words-spot.result.place c.pass_words-spot.result.left c.self.invariant c.deref.ensures.value c.deref-2.ensures.value c.deref-3.ensures.value c.pass_in_16-lot.ensures.passed c.pass_in_8-group.ensures.passed c.pass_words-spot.ensures.passed in
    nth_some bits it.words.items it.by_512.items it.by_4096.items it.total c.args.k c.index.result.now c.pass_words-spot.result.place c.pass_words-spot.result.left c.find_bit-at.result c.new.result c.self.invariant (read at.After-index (there at.After-pass_words-spot)) reached c.find_bit-at.ensures.inside c.find_bit-at.ensures.on c.find_bit-at.ensures.passed (subst (λ n. SomeIff c.new.result ((1 ≤ n) × (n ≤ 65535)) n) c.from.ensures c.new.ensures)
    ∙ ap (λ xs. slice_get (members xs) c.args.k) c.self.view_is
