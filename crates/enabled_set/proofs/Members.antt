-- The members of a set, ascending.
use Rattle.enabled_set.proofs.Prelude.{◌≡◌, ℕ, zero, suc, ◌<◌, Bool, true, false, List, length, get_or, Some, refl, ap, ◌∙◌, arith, slice_get, get_or_past, get_or_push, get_or_append_left, slice_get-get_or, is_in, members}
use Rattle.enabled_set.specs.Counts.{below, tally}
use Rattle.enabled_set.proofs.PassCounts.{below_more, tally_through}

pub length-below : (p : ℕ → Bool) (n : ℕ) → length (below p n) ≡ tally p n
unfolding tally
length-below p n = refl

pub length-members : (bits : List Bool) → length (members bits) ≡ tally (is_in bits) (length bits)
unfolding tally below
length-members bits = refl

-- the k-th number that passes
below_at : (p : ℕ → Bool) (n v k : ℕ) → p v ≡ true → tally p v ≡ k → v < n → get_or (below p n) k 0 ≡ v
below_at p zero v k on is inside = absurd (omega arith)
below_at p (suc n) v k on is inside = grind (arith, below_at p n v k on is, length-below, tally_through, below_more, get_or_append_left, get_or_push)

-- a member has a place
pub inside : (bits : List Bool) (v : ℕ) → is_in bits v ≡ true → v < length bits
inside bits v on = let past = get_or_past bits v false in grind arith

-- a member is the k-th if k members are before it
pub nth_member : (bits : List Bool) (v k : ℕ) → is_in bits v ≡ true → tally (is_in bits) v ≡ k → slice_get (members bits) k ≡ Some v
unfolding below
nth_member bits v k on is =
    let there = inside bits v on in
    let len = length-members bits in
    let room = tally_through (is_in bits) v v (length bits) on (omega arith) there in
    slice_get-get_or (members bits) k 0 (omega arith) ∙ ap (λ (x : ℕ). Some x) (below_at (is_in bits) (length bits) v k on is there)
