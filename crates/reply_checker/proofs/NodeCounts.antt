-- Counts over the nodes in turn.
use Rattle.reply_checker.proofs.Prelude.{rules, ◌≡◌, ℕ, ◌+◌, Bool, cond, nat_lt, List, [], ◌∷◌, length, filter, filter_map, sum_by, Option, None, Some, is_some, refl, ◌∙◌, arith, cons_option, is_lt, nat_cmp, sum_by-cons, length-filter, sum_agree}

longer : {Y : Type 0} (o : Option Y) (ys : List Y) → length (cons_option o ys) ≡ cond (is_some o) 1 0 + length ys
longer None ys = omega arith
longer (Some y) ys = omega arith

-- the values of a function over a list are as many as the elements that have one
pub length_filter_map : {X Y : Type 0} (f : X → Option Y) (xs : List X) → length (filter_map f xs) ≡ sum_by (λ x. cond (is_some (f x)) 1 0) xs
length_filter_map f [] = refl
length_filter_map f (x ∷ xs) =
    let whole = sum_by-cons (λ y. cond (is_some (f y)) 1 0) x xs in
    let here = longer (f x) (filter_map f xs) in
    let rest = length_filter_map f xs in
    omega (arith, whole, here, rest)

-- ---- what is kept, among all

-- a sum over what passes a test
pub kept_sum : {X : Type 0} (p : X → Bool) (f : X → ℕ) (xs : List X) → sum_by f (filter p xs) ≡ sum_by (λ x. cond (p x) (f x) 0) xs
kept_sum p f [] = refl
kept_sum p f (x ∷ xs) =
    let whole = sum_by-cons (λ y. cond (p y) (f y) 0) x xs in
    let kept = sum_by-cons f x (filter p xs) in
    let rest = kept_sum p f xs in
    grind arith

-- the values at what passes a test
pub kept_values : {X Y : Type 0} (p : X → Bool) (f g : X → Option Y) → ((x : X) → g x ≡ cond (p x) (f x) None) → (xs : List X) → filter_map f (filter p xs) ≡ filter_map g xs
kept_values p f g same [] = refl
kept_values p f g same (x ∷ xs) =
    let here = same x in
    let rest = kept_values p f g same xs in
    grind arith

-- how many of what passes a test have a value
pub kept_count : {X Y : Type 0} (p : X → Bool) (f : X → Option Y) (xs : List X) → length (filter (λ x. is_some (f x)) (filter p xs)) ≡ sum_by (λ x. cond (is_some (cond (p x) (f x) None)) 1 0) xs
kept_count {Y = Y} p f xs =
    length-filter (λ x. is_some (f x)) (filter p xs) ∙ kept_sum p (λ x. cond (is_some (f x)) 1 0) xs
    ∙ sum_agree (λ x. cond (p x) (cond (is_some (f x)) 1 0) 0) (λ x. cond (is_some (cond (p x) (f x) None)) 1 0) (λ x. grind arith) xs

-- ---- names compared

pub below_test : (v w : ℕ) → is_lt (nat_cmp v w) ≡ nat_lt v w
below_test v w = search rules
