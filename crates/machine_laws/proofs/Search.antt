-- Properties of `find` and `filter` over a range of numbers.
use Rattle.machine_laws.proofs.ChargePrelude.Imports.{◌≡◌, ℕ, zero, suc, ◌+◌, ◌<◌, ◌≤◌, Bool, true, false, cond, ◌&&◌, List, [], ◌∷◌, Option, None, Some, find, filter, refl, ◌⊎◌, arith, range_with_len, cases_eq}

-- the test of the first item fails, and so does the search in the rest
pub cond-none : {X : Type 0} (b : Bool) (x : X) (o : Option X) → cond b (Some x) o ≡ None → (b ≡ false) × (o ≡ None)
cond-none x y o e = grind arith

-- the first item is found, or one in the rest
pub cond-some : {X : Type 0} (b : Bool) (x y : X) (o : Option X) → cond b (Some x) o ≡ Some y → ((b ≡ true) × (x ≡ y)) ⊎ ((b ≡ false) × (o ≡ Some y))
cond-some x y z o e = grind arith

-- a search among what a filter keeps
pub find-filter : {X : Type 0} (p q : X → Bool) (xs : List X) → find p (filter q xs) ≡ find (λ x. q x && p x) xs
find-filter p q [] = refl
find-filter p q (x ∷ xs) = grind (arith, find-filter p q xs)

-- two tests that agree find the same
pub find-agree : {X : Type 0} (p q : X → Bool) (xs : List X) → ((x : X) → p x ≡ q x) → find p xs ≡ find q xs
find-agree p q [] h = refl
find-agree p q (x ∷ xs) h = grind (arith, find-agree p q xs h, h x)

-- a filter keeps nothing exactly if the search finds nothing
pub find_from_empty : {X : Type 0} (p : X → Bool) (xs : List X) → filter p xs ≡ [] → find p xs ≡ None
find_from_empty p [] e = refl
find_from_empty p (x ∷ xs) e = grind (arith, find_from_empty p xs)

pub empty_from_find : {X : Type 0} (p : X → Bool) (xs : List X) → find p xs ≡ None → filter p xs ≡ []
empty_from_find p [] e = refl
empty_from_find p (x ∷ xs) e = grind (arith, empty_from_find p xs)

-- a search over numbers in turn that finds nothing
pub range_none : (p : ℕ → Bool) (a n : ℕ) → find p (range_with_len a n) ≡ None → (x : ℕ) → a ≤ x → x < a + n → p x ≡ false
range_none p a zero e x low high = absurd (omega arith)
range_none p a (suc n) e x low high = grind (arith, range_none p (a + 1) n, cond-none, cases_eq a x)

-- a number that a search of the range finds is in the range and passes
pub range_some : (p : ℕ → Bool) (a n x : ℕ) → find p (range_with_len a n) ≡ Some x → (a ≤ x) × (x < a + n) × (p x ≡ true)
range_some p a zero x e = absurd cc
range_some p a (suc n) x e = grind (arith, range_some p (a + 1) n x, cond-some)

-- a search that no number passes
pub range_fails : (p : ℕ → Bool) (a n : ℕ) → ((x : ℕ) → a ≤ x → x < a + n → p x ≡ false) → find p (range_with_len a n) ≡ None
range_fails p a zero h = refl
range_fails p a (suc n) h = grind (arith, range_fails p (a + 1) n (λ x low high. h x (omega arith) (omega arith)))
