-- Counts and sums over a list, compared element by element, or by an injection of one list into another.
use Rattle.machine_laws.proofs.ChargePrelude.{not, ◌&&◌, ◌||◌, ◌≡◌, ℕ, ◌+◌, ◌*◌, ◌≤◌, Bool, true, false, cond, List, [], ◌∷◌, length, count_by, sum_by, IsTrue, refl, sym, ap, ◌∙◌, subst, inl, inr, ⊎_elim, ◌⊎◌, arith, cases_Bool, cond-true, cond-false, nat_eq, eqb-true, true≢false, false_from_ne_true, sum_by-cons}

-- y is in the list
abbrev pub IsIn : {X : Type 0} → X → List X → Type 0
IsIn y [] = ⊥
IsIn y (x ∷ xs) = (x ≡ y) ⊎ IsIn y xs

-- no element is in the list twice
abbrev pub IsWithoutRepeats : {X : Type 0} → List X → Type 0
IsWithoutRepeats [] = Unit {0}
IsWithoutRepeats (x ∷ xs) = (IsIn x xs → ⊥) × IsWithoutRepeats xs

pub count_cons : {X : Type 0} (p : X → Bool) (x : X) (xs : List X) → count_by p (x ∷ xs) ≡ cond (p x) 1 0 + count_by p xs
count_cons p x xs = sum_by-cons (λ y. cond (p y) 1 0) x xs

-- a sum of sums
pub sum_add : {X : Type 0} (f g : X → ℕ) (xs : List X) → sum_by (λ x. f x + g x) xs ≡ sum_by f xs + sum_by g xs
sum_add f g [] = refl
sum_add f g (x ∷ xs) = omega (arith, sum_by-cons (λ y. f y + g y) x xs, sum_by-cons f x xs, sum_by-cons g x xs, sum_add f g xs)

-- a sum whose terms are no larger is no larger
pub sum_le : {X : Type 0} (f g : X → ℕ) (xs : List X) → ((x : X) → IsIn x xs → f x ≤ g x) → sum_by f xs ≤ sum_by g xs
sum_le f g [] h = omega arith
sum_le f g (x ∷ xs) h = grind (arith, sum_le f g xs (λ y there. h y (inr there)), sum_by-cons)

-- twice each term is twice the sum
pub sum_twice : {X : Type 0} (f : X → ℕ) (xs : List X) → sum_by (λ x. 2 * f x) xs ≡ 2 * sum_by f xs
sum_twice f [] = refl
sum_twice f (x ∷ xs) = omega (arith, sum_by-cons (λ y. 2 * f y) x xs, sum_by-cons f x xs, sum_twice f xs)

pub sum_zero : {X : Type 0} (f : X → ℕ) (xs : List X) → sum_by f xs ≡ 0 → (x : X) → IsIn x xs → f x ≡ 0
sum_zero f [] e x h = absurd h
sum_zero f (y ∷ ys) e x at = grind (arith, sum_zero f ys, sum_by-cons)

pub count_none : {X : Type 0} (p : X → Bool) (xs : List X) → count_by p xs ≡ 0 → (x : X) → IsIn x xs → p x ≡ false
count_none p xs e x h = grind (arith, sum_zero)

pub count_all : {X : Type 0} (xs : List X) → count_by (λ x. true) xs ≡ length xs
count_all [] = refl
count_all {X = X} (x ∷ xs) = sum_by-cons {X = X} (λ x. 1) x xs ∙ (let rest = count_all xs in omega (arith, rest))

-- terms that agree have the same sum, and tests that agree the same count
pub sum_agree_in : {X : Type 0} (f g : X → ℕ) (xs : List X) → ((x : X) → IsIn x xs → f x ≡ g x) → sum_by f xs ≡ sum_by g xs
sum_agree_in f g xs same = grind (arith, sum_le)

pub sum_agree : {X : Type 0} (f g : X → ℕ) → ((x : X) → f x ≡ g x) → (xs : List X) → sum_by f xs ≡ sum_by g xs
sum_agree f g same xs = sum_agree_in f g xs (λ x there. same x)

pub count_agree : {X : Type 0} (p q : X → Bool) → ((x : X) → p x ≡ q x) → (xs : List X) → count_by p xs ≡ count_by q xs
count_agree p q same xs = sum_agree (λ x. cond (p x) 1 0) (λ x. cond (q x) 1 0) (λ x. ap (λ b. cond b 1 0) (same x)) xs

-- a test that implies another counts no more
pub count_le : {X : Type 0} (p q : X → Bool) (xs : List X) → ((x : X) → IsIn x xs → p x ≡ true → q x ≡ true) → count_by p xs ≤ count_by q xs
count_le p q [] h = omega arith
count_le p q (x ∷ xs) h = grind (arith, count_le p q xs (λ y there. h y (inr there)), h x (inl refl), count_cons p x xs, count_cons q x xs)

-- what passes a test passes another with it or does not
pub count_split : {X : Type 0} (p q : X → Bool) (xs : List X) → count_by p xs ≡ count_by (λ x. p x && q x) xs + count_by (λ x. p x && not (q x)) xs
count_split p q [] = refl
count_split p q (x ∷ xs) = grind (arith, count_split p q xs, count_cons p x xs, count_cons (λ y. p y && q y) x xs, count_cons (λ y. p y && not (q y)) x xs)

-- and before it
pub count_before : {X : Type 0} (s p : X → Bool) (xs : List X) → count_by p xs ≡ count_by (λ x. s x && p x) xs + count_by (λ x. not (s x) && p x) xs
count_before s p [] = refl
count_before s p (x ∷ xs) = grind (arith, count_before s p xs, count_cons p x xs, count_cons (λ y. s y && p y) x xs, count_cons (λ y. not (s y) && p y) x xs)

-- what passes either test, and what passes both
pub count_either : {X : Type 0} (p q : X → Bool) (xs : List X) → count_by (λ x. p x || q x) xs + count_by (λ x. p x && q x) xs ≡ count_by p xs + count_by q xs
count_either p q [] = refl
count_either p q (x ∷ xs) = grind (arith, count_either p q xs, count_cons p x xs, count_cons q x xs, count_cons (λ y. p y || q y) x xs, count_cons (λ y. p y && q y) x xs)

pub count_or : {X : Type 0} (p q : X → Bool) (xs : List X) → count_by (λ x. p x || q x) xs ≤ count_by p xs + count_by q xs
count_or p q xs = omega (arith, count_either p q xs)

pub count_not : {X : Type 0} (p : X → Bool) (xs : List X) → count_by p xs + count_by (λ x. not (p x)) xs ≡ length xs
count_not p [] = refl
count_not p (x ∷ xs) = grind (arith, count_not p xs, count_cons p x xs, count_cons (λ y. not (p y)) x xs)

-- the list without one of its elements
abbrev pub without : {X : Type 0} (xs : List X) (y : X) → IsIn y xs → List X
without [] y h = absurd h
without (x ∷ xs) y (inl same) = xs
without (x ∷ xs) y (inr there) = x ∷ without xs y there

pub length_without : {X : Type 0} (xs : List X) (y : X) (h : IsIn y xs) → length xs ≡ 1 + length (without xs y h)
length_without [] y h = absurd h
length_without (x ∷ xs) y (inl same) = omega arith
length_without (x ∷ xs) y (inr there) = let rest = length_without xs y there in omega (arith, rest)

-- a sum is that of the rest and the element's term
pub sum_without : {X : Type 0} (f : X → ℕ) (xs : List X) (y : X) (h : IsIn y xs) → sum_by f xs ≡ f y + sum_by f (without xs y h)
sum_without f [] y h = absurd h
sum_without f (x ∷ xs) y (inl same) = sum_by-cons f x xs ∙ ap (λ z. f z + sum_by f xs) same
sum_without f (x ∷ xs) y (inr there) = grind (arith, sum_without f xs y there, sum_by-cons)

pub in_without : {X : Type 0} (xs : List X) (y : X) (h : IsIn y xs) (z : X) → IsIn z xs → (y ≡ z → ⊥) → IsIn z (without xs y h)
in_without [] y h z at apart = absurd h
in_without (x ∷ xs) y (inl same) z at apart = grind arith
in_without (x ∷ xs) y (inr there) z at apart = grind (arith, in_without xs y there z)

-- f takes the elements that pass p to elements that pass q, no two to one
pub record IsInjection {X Y : Type 0} (p : X → Bool) (xs : List X) (f : X → Y) (q : Y → Bool) (ys : List Y) : Type 0 where
  pub lands : (x : X) → IsIn x xs → IsTrue (p x) → IsIn (f x) ys
  pub passes : (x : X) → IsIn x xs → IsTrue (p x) → IsTrue (q (f x))
  pub apart : (x y : X) → IsIn x xs → IsIn y xs → IsTrue (p x) → IsTrue (p y) → f x ≡ f y → x ≡ y

-- Then the first list has at most as many. The first element that passes removes its image from the other
-- list; the rest maps into the remainder.
pub count_into : {X Y : Type 0} (p : X → Bool) (xs : List X) (f : X → Y) (q : Y → Bool) (ys : List Y) → IsWithoutRepeats xs → IsInjection p xs f q ys → count_by p xs ≤ count_by q ys
count_into p [] f q ys single into = omega arith
count_into p (x ∷ xs) f q ys single into =
    let whole = sum_by-cons (λ x. cond (p x) 1 0) x xs in
    ⊎_elim
    (
    λ yes. let at = into.lands x (inl refl) yes in
    let less = sum_without (λ y. cond (q y) 1 0) ys (f x) at in
    let found = cond-true {A = ℕ} (q (f x)) 1 0 (into.passes x (inl refl) yes) in
    let rest = count_into p xs f q (without ys (f x) at) single.1 (record {
      lands = λ y there pass. in_without ys (f x) at (f y) (into.lands y (inr there) pass) (λ same. single.0 (subst (λ z. IsIn z xs) (sym (into.apart x y (inl refl) (inr there) yes pass same)) there));
      passes = λ y there. into.passes y (inr there);
      apart = λ y z there also. into.apart y z (inr there) (inr also);
    }) in
    let one = cond-true {A = ℕ} (p x) 1 0 yes in
    omega (arith, whole, less, found, rest, one)
    )
    (
    λ no. let rest = count_into p xs f q ys single.1 (record {
      lands = λ y there. into.lands y (inr there);
      passes = λ y there. into.passes y (inr there);
      apart = λ y z there also. into.apart y z (inr there) (inr also);
    }) in
    let none = cond-false {A = ℕ} (p x) 1 0 no in
    omega (arith, whole, rest, none)
    )
    (cases_Bool (p x))

pub none_count : {X : Type 0} (p : X → Bool) (xs : List X) → ((x : X) → IsIn x xs → p x ≡ false) → count_by p xs ≡ 0
none_count p [] none = refl
none_count p (x ∷ xs) none = grind (arith, none_count p xs (λ y there. none y (inr there)), sum_by-cons)

pub one_count : {X : Type 0} (p : X → Bool) (xs : List X) (x : X) → IsIn x xs → IsTrue (p x) → 1 ≤ count_by p xs
one_count p xs x there passes = grind (arith, count_none)

-- what passes both tests, and is in both lists, is counted in the second
pub count_within : {X : Type 0} (p q : X → Bool) (xs ys : List X) → IsWithoutRepeats xs → ((x : X) → IsIn x xs → p x ≡ true → IsIn x ys × (q x ≡ true)) → count_by p xs ≤ count_by q ys
count_within p q xs ys single both =
    count_into p xs (λ x. x) q ys single (record { lands = λ x there h. (both x there h).0; passes = λ x there h. (both x there h).1; apart = λ x z there also h k same. same })

-- if only elements of the second list pass, at most its length is counted
pub count_among : {X : Type 0} (p : X → Bool) (xs ys : List X) → IsWithoutRepeats xs → ((x : X) → IsIn x xs → p x ≡ true → IsIn x ys) → count_by p xs ≤ length ys
count_among p xs ys single only = omega (arith, count_within p (λ x. true) xs ys single (λ x there h. (only x there h, refl)), count_all ys)

-- what passes a test that only y passes is counted at most once
pub at_most_one : {X : Type 0} (q : X → Bool) (y : X) (xs : List X) → IsWithoutRepeats xs → ((x : X) → IsIn x xs → q x ≡ true → x ≡ y) → count_by q xs ≤ 1
at_most_one q y xs single only = count_among q xs (y ∷ []) single (λ x there h. inl (sym (only x there h)))

-- and once if y is there
pub counted_once : {X : Type 0} (q : X → Bool) (y : X) (xs : List X) (b : Bool) → IsWithoutRepeats xs → ((x : X) → IsIn x xs → q x ≡ true → (x ≡ y) × (b ≡ true)) → (b ≡ true → IsIn y xs × (q y ≡ true)) → count_by q xs ≡ cond b 1 0
counted_once q y xs true single only there = let most = at_most_one q y xs single (λ x at h. (only x at h).0) in let least = one_count q xs y (there refl).0 (there refl).1 in omega (arith, most, least)
counted_once q y xs false single only there = none_count q xs (λ x at. false_from_ne_true (q x) (λ h. true≢false (sym (only x at h).1)))

-- in a list without repeats a number occurs at most once
pub once : (v : ℕ) (xs : List ℕ) → IsWithoutRepeats xs → count_by (nat_eq v) xs ≤ 1
once v xs single = at_most_one (nat_eq v) v xs single (λ x there h. sym (eqb-true v x h))

-- the order of two sums
pub sum_swap : {X Y : Type 0} (f : X → Y → ℕ) (xs : List X) (ys : List Y) → sum_by (λ x. sum_by (f x) ys) xs ≡ sum_by (λ y. sum_by (λ x. f x y) xs) ys
sum_swap f [] ys = sym (none_count (λ y. false) ys (λ y there. refl))
sum_swap f (x ∷ xs) ys =
    let each = sum_agree (λ y. sum_by (λ z. f z y) (x ∷ xs)) (λ y. f x y + sum_by (λ z. f z y) xs) (λ y. sum_by-cons (λ z. f z y) x xs) ys in
    omega (arith, sum_by-cons (λ z. sum_by (f z) ys) x xs, sum_swap f xs ys, each, sum_add (f x) (λ y. sum_by (λ z. f z y) xs) ys)
