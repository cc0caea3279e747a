-- One mark more, and one less.
use Rattle.enabled_set.proofs.Prelude.{◌≡◌, ℕ, ◌+◌, ◌-◌, ◌<◌, ◌≤◌, Bool, true, false, List, length, get_or, set, replicate, sym, ap, ◌∙◌, ◌≢◌, ⊎_elim, arith, cases_eq, cases_lt, false_from_ne_true, true≢false, get_or_read, get_or-set_other, get_or-set_same, length-replicate, length-set, is_in, members, tally, AreListed}
use Rattle.enabled_set.proofs.Changes.{tally_nobody, total_few}
use Rattle.enabled_set.proofs.PassCounts.{tally_set, tally_through}
use Rattle.enabled_set.proofs.Members.{inside, length-members}

-- no name is marked
pub none_listed : (n : ℕ) (bits : List Bool) (names : List ℕ) → 1 ≤ n → n ≤ 65536 → bits ≡ replicate n false → length names ≡ n → AreListed bits names 0
none_listed n bits names some few empty room = grind (arith, length-replicate, tally, tally_nobody)

-- if one is not marked, there is room for it
pub room_left : (bits : List Bool) (names : List ℕ) (count v : ℕ) → AreListed bits names count → v < length bits → is_in bits v ≡ false → count < length bits
room_left bits names count v listed there off =
    let put = rw off at ((tally_set bits v true (length bits) there).1 there) in
    let most = rw length-set at (total_few (set bits v true)) in
    omega (arith, put, most, listed.counted)

-- there are at most as many as places
pub all_listed : (bits : List Bool) (names : List ℕ) (count : ℕ) → AreListed bits names count → count ≤ length bits
all_listed bits names count listed = let most = total_few bits in omega (arith, most, listed.counted)

-- one name more
pub one_listed_more : (bits : List Bool) (names : List ℕ) (count v : ℕ) → AreListed bits names count → v < length bits → is_in bits v ≡ false → AreListed (set bits v true) (set names count v) (count + 1)
one_listed_more bits names count v listed there off =
    let put = rw off at ((tally_set bits v true (length bits) there).1 there) in
    let space = room_left bits names count v listed there off in
    grind (arith, cases_eq, cases_lt, get_or-set_other, get_or-set_same, length-set)

-- the name at the end of the list: it is marked and has a place, and without it one is listed less
pub record IsLast (bits : List Bool) (names : List ℕ) (count v : ℕ) : Type 0 where
  pub marked : is_in bits v ≡ true
  pub there : v < length bits
  pub less : AreListed (set bits v false) names (count - 1)

pub at_end : (bits : List Bool) (names : List ℕ) (count v : ℕ) → 1 ≤ count → v ≡ get_or names (count - 1) v → AreListed bits names count → IsLast bits names count v
at_end bits names count v some read listed =
    let most = all_listed bits names count listed in
    let at = get_or_read names (count - 1) v (omega (arith, some, most, listed.room)) read 0 in
    let on = ap (is_in bits) at ∙ listed.marked (count - 1) (omega (arith, some)) in
    let there = inside bits v on in
    let len = length-set bits v false in
    let put = rw on at ((tally_set bits v false (length bits) there).1 there) in
    grind (arith, get_or-set_other, length-set)

-- if none is listed, none is marked
pub none_marked : (bits : List Bool) (names : List ℕ) (count v : ℕ) → count ≡ 0 → AreListed bits names count → is_in bits v ≡ false
none_marked bits names count v none listed =
    false_from_ne_true (is_in bits v) (λ on. omega (arith, tally_through (is_in bits) 0 v (length bits) on (omega arith) (inside bits v on), none, listed.counted))

-- a set without one of its members has fewer
pub one_fewer : (bits bits' : List Bool) (v : ℕ) → is_in bits v ≡ true → bits' ≡ set bits v false → length (members bits') < length (members bits)
one_fewer bits bits' v is cleared =
    let within = inside bits v is in
    let put = rw is at ((tally_set bits v false (length bits) within).1 within) in
    rw (cleared, length-members, length-members, length-set) (omega (arith, put))
