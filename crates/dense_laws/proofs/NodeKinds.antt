-- The unmarried nodes by their pointers: idle (null), stuck (at a node that points elsewhere), hoping (at a
-- null one).
use Rattle.dense_laws.proofs.Prelude.{◌≡◌, ◌≢◌, ℕ, ◌+◌, Bool, not, ◌&&◌, List, count_by, Option, None, Some, is_some, is_none, IsTrue, sym, ap, ◌∙◌, arith, and_parts, and_from, not-true, not_from_false, false_from_ne_true, true≢false, none-some, same_Some, is_at, holds_at, option_cases, some_from_is_at, is_at_from_some, sum_add, sum_agree, holds_is, stance, is_paired, StanceCase, stance_cases, free_from, waiting_from, paired_from, not_null, null_from, bit}

abbrev pub is_single : (ℕ → Option ℕ) → ℕ → Bool
is_single p v = not (is_paired (stance p v))

abbrev pub is_idle : (ℕ → Option ℕ) → ℕ → Bool
is_idle p v = is_none (p v)

abbrev pub is_stuck : (ℕ → Option ℕ) → ℕ → Bool
is_stuck p v = holds_at (λ w. is_some (p w) && not (is_at (p w) v)) (p v)

abbrev pub is_hoping : (ℕ → Option ℕ) → ℕ → Bool
is_hoping p v = holds_at (λ w. is_none (p w)) (p v)

abbrev pub singles : (ℕ → Option ℕ) → List ℕ → ℕ
singles p xs = count_by (is_single p) xs

abbrev pub idles : (ℕ → Option ℕ) → List ℕ → ℕ
idles p xs = count_by (is_idle p) xs

abbrev pub stucks : (ℕ → Option ℕ) → List ℕ → ℕ
stucks p xs = count_by (is_stuck p) xs

abbrev pub hopings : (ℕ → Option ℕ) → List ℕ → ℕ
hopings p xs = count_by (is_hoping p) xs

-- ---- from pointers and back

not_none : (o : Option ℕ) → o ≢ None → IsTrue (is_some o)
not_none o h = grind arith

pub stuck_from : (p : ℕ → Option ℕ) (v w : ℕ) → p v ≡ Some w → p w ≢ None → p w ≢ Some v → IsTrue (is_stuck p v)
stuck_from p v w at busy apart = grind (arith, and_from, not_none, not_from_false, false_from_ne_true, some_from_is_at)

pub stuck_is : (p : ℕ → Option ℕ) (v : ℕ) → IsTrue (is_stuck p v) → (w : ℕ) × (p v ≡ Some w) × (p w ≢ None) × (p w ≢ Some v)
stuck_is p v h =
    let aim = holds_is (λ w. is_some (p w) && not (is_at (p w) v)) (p v) h in
    let both = and_parts (is_some (p aim.0)) (not (is_at (p aim.0) v)) aim.2 in
    (aim.0, aim.1, not_null (p aim.0) both.0, λ back. true≢false (sym (is_at_from_some (p aim.0) v back) ∙ not-true (is_at (p aim.0) v) both.1))

pub hoping_from : (p : ℕ → Option ℕ) (v w : ℕ) → p v ≡ Some w → p w ≡ None → IsTrue (is_hoping p v)
hoping_from p v w at null = ap (holds_at (λ w. is_none (p w))) at ∙ ap is_none null

pub hoping_is : (p : ℕ → Option ℕ) (v : ℕ) → IsTrue (is_hoping p v) → (w : ℕ) × (p v ≡ Some w) × (p w ≡ None)
hoping_is p v h = let aim = holds_is (λ w. is_none (p w)) (p v) h in (aim.0, aim.1, null_from (p aim.0) aim.2)

pub single_free : (p : ℕ → Option ℕ) (v : ℕ) → p v ≡ None → IsTrue (is_single p v)
single_free p v e = ap (λ s. not (is_paired s)) (free_from p v e)

pub single_waiting : (p : ℕ → Option ℕ) (v w : ℕ) → p v ≡ Some w → p w ≢ Some v → IsTrue (is_single p v)
single_waiting p v w e apart = ap (λ s. not (is_paired s)) (waiting_from p v w e apart)

pub paired_not_single : (p : ℕ → Option ℕ) (v w : ℕ) → p v ≡ Some w → p w ≡ Some v → IsTrue (is_single p v) → ⊥
paired_not_single p v w e back h = true≢false (sym h ∙ ap (λ s. not (is_paired s)) (paired_from p v w e back))

-- ---- the kinds are all

kinds_at : (p : ℕ → Option ℕ) (v : ℕ) → bit (is_idle p v) + bit (is_stuck p v) + bit (is_hoping p v) ≡ bit (is_single p v)
kinds_at p v = by_stance (stance_cases p v)
  where
    sums : (i s h k : Bool) → is_idle p v ≡ i → is_stuck p v ≡ s → is_hoping p v ≡ h → is_single p v ≡ k → bit i + bit s + bit h ≡ bit k → bit (is_idle p v) + bit (is_stuck p v) + bit (is_hoping p v) ≡ bit (is_single p v)
    sums i s h k a b c d e = grind arith

    by_stance : StanceCase p v → bit (is_idle p v) + bit (is_stuck p v) + bit (is_hoping p v) ≡ bit (is_single p v)
    by_stance h0 = grind (arith, single_free, hoping_from, single_waiting, stuck_from, none-some, option_cases, false_from_ne_true, stuck_is, same_Some)

pub kinds_are_all : (p : ℕ → Option ℕ) (xs : List ℕ) → idles p xs + stucks p xs + hopings p xs ≡ singles p xs
kinds_are_all p xs =
    let last = sum_add (λ v. bit (is_idle p v) + bit (is_stuck p v)) (λ v. bit (is_hoping p v)) xs in
    let first = sum_add (λ v. bit (is_idle p v)) (λ v. bit (is_stuck p v)) xs in
    let same = sum_agree (λ v. bit (is_idle p v) + bit (is_stuck p v) + bit (is_hoping p v)) (λ v. bit (is_single p v)) (kinds_at p) xs in
    omega (arith, last, first, same)
