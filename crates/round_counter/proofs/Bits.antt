-- Sets of names after one name goes or comes, and their members.
use Rattle.round_counter.proofs.Prelude.{◌≡◌, ℕ, zero, suc, ◌+◌, ◌<◌, ◌≤◌, Bool, true, false, not, ◌&&◌, List, length, set, nat_eq, ap, ◌∙◌, inl, inr, ⊎_elim, arith, cases_eq, get_or-set_same, get_or-set_other, set_past, get_or_past, range_with_len, IsIn, in_kept, kept_in, is_in, members}

-- a name goes
pub in_removed : (bits : List Bool) (w u : ℕ) → is_in (set bits w false) u ≡ (is_in bits u && not (nat_eq u w))
in_removed bits w u = grind (arith, get_or-set_same, get_or-set_other, get_or_past, set_past, cases_eq)

-- the same, the name first
pub in_removed_by : (bits : List Bool) (w u : ℕ) → is_in (set bits w false) u ≡ (is_in bits u && not (nat_eq w u))
in_removed_by bits w u = in_removed bits w u ∙ ap (λ b. is_in bits u && not b) (turned u w)
  where
    turned : (a b : ℕ) → nat_eq a b ≡ nat_eq b a
    turned a b = grind (arith, cases_eq)

-- ---- members

in_range : (a n v : ℕ) → a ≤ v → v < a + n → IsIn v (range_with_len a n)
in_range a zero v low high = absurd (omega arith)
in_range a (suc n) v low high = ⊎_elim (λ same. inl same) (λ apart. inr (in_range (a + 1) n v (omega arith) (omega arith))) (cases_eq a v)

has_place : (bits : List Bool) (v : ℕ) → is_in bits v ≡ true → v < length bits
has_place bits v on = let past = get_or_past bits v false in grind arith

pub member_in : (bits : List Bool) (v : ℕ) → is_in bits v ≡ true → IsIn v (members bits)
member_in bits v on = let place = has_place bits v on in in_kept (is_in bits) v (range_with_len 0 (length bits)) on (in_range 0 (length bits) v (omega arith) (omega arith))

pub in_member : (bits : List Bool) (v : ℕ) → IsIn v (members bits) → is_in bits v ≡ true
in_member bits v there = (kept_in (is_in bits) v (range_with_len 0 (length bits)) there).0
