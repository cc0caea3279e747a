-- Sums and counts over a list.
use Rattle.suitor_index.proofs.Prelude.{◌≡◌, ◌≢◌, ℕ, ◌+◌, Bool, cond, List, ◌∷◌, reverse, filter, find, Some, None, is_some, nat_lt, refl, sym, ap, ◌∙◌, arith, sum_by, count_by, lt-ltb, sum_by-cons, IsPermutation-reverse, sum_by-IsPermutation, name_if, count_cons, IsIn, sum_le, subst, IsWithoutRepeats, inl, inr, []}

-- a sum over what a filter keeps
pub sum_filter : (f : ℕ → ℕ) (q : ℕ → Bool) (xs : List ℕ) → sum_by f (filter q xs) ≡ sum_by (λ x. cond (q x) (f x) 0) xs
sum_filter f q [] = refl
sum_filter f q (x ∷ xs) = grind (arith, sum_filter f q xs, sum_by-cons f x (filter q xs), sum_by-cons (λ y. cond (q y) (f y) 0) x xs)

-- sums over the same list of terms that are the same but at one number, which the list has once
pub sum_turn : (f g : ℕ → ℕ) (v : ℕ) (xs : List ℕ) → IsWithoutRepeats xs → IsIn v xs → ((x : ℕ) → x ≢ v → f x ≡ g x) → sum_by f xs + g v ≡ sum_by g xs + f v
sum_turn f g v [] once there same = absurd there
sum_turn f g v (x ∷ xs) once (inl here) same =
    let agree : (y : ℕ) → IsIn y xs → f y ≡ g y = λ y in_rest. same y (λ e. once.0 (subst (λ z. IsIn z xs) (e ∙ sym here) in_rest)) in
    let up = sum_le f g xs (λ y in_rest. omega (arith, agree y in_rest)) in
    let down = sum_le g f xs (λ y in_rest. omega (arith, agree y in_rest)) in
    omega (arith, sum_by-cons f x xs, sum_by-cons g x xs, up, down, ap f here, ap g here)
sum_turn f g v (x ∷ xs) once (inr there) same =
    omega (arith, sum_by-cons f x xs, sum_by-cons g x xs, sum_turn f g v xs once.1 there same, same x (λ e. once.0 (subst (λ z. IsIn z xs) (sym e) there)))

-- a search finds something exactly if the count is not 0
pub count_some : (p : ℕ → Bool) (xs : List ℕ) → nat_lt 0 (count_by p xs) ≡ is_some (find p xs)
count_some p [] = refl
count_some p (x ∷ xs) = grind (arith, count_some p xs, count_cons p x xs, lt-ltb)

pub count_none : (p : ℕ → Bool) (xs : List ℕ) → count_by p xs ≡ 0 → find p xs ≡ None
count_none p [] none = refl
count_none p (x ∷ xs) none = grind (arith, count_none p xs, count_cons p x xs)

-- if none passes, no name is added
names_none : (p : ℕ → Bool) (xs : List ℕ) → count_by p xs ≡ 0 → sum_by (name_if p) xs ≡ 0
names_none p [] none = refl
names_none p (x ∷ xs) none = grind (arith, names_none p xs, count_cons p x xs, sum_by-cons (name_if p) x xs)

-- if one name passes, the sum is its name
pub count_one : (p : ℕ → Bool) (xs : List ℕ) → count_by p xs ≡ 1 → find p xs ≡ Some (sum_by (name_if p) xs)
count_one p [] one = absurd (let e : 0 ≡ 1 = one in omega arith)
count_one p (x ∷ xs) one = grind (arith, count_one p xs, names_none p xs, count_cons p x xs, sum_by-cons (name_if p) x xs)

-- the count is the same from the end
pub count_reverse : (p : ℕ → Bool) (xs : List ℕ) → count_by p (reverse xs) ≡ count_by p xs
count_reverse p xs = sum_by-IsPermutation (λ x. cond (p x) 1 0) xs (reverse xs) (IsPermutation-reverse xs)
