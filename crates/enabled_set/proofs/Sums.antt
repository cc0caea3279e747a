-- Sums of what a list has at a place for each name.
use Rattle.enabled_set.proofs.Prelude.{◌≡◌, ℕ, suc, ◌+◌, ◌*◌, ◌-◌, ◌<◌, ◌≤◌, Bool, true, false, cond, List, [], ◌∷◌, length, get_or, replicate, set, map, sum_by, sym, refl, ap, ◌∙◌, arith, All, range_with_len, le_trans, mul-le, ext_get_or, get_or-replicate, get_or_past, length-replicate, length-set, All-set, get_or-map-range_with_len, length-map-range_with_len, get_or-le-sum_by, sum_by-cons, sum_by-le, sum_by-set, sum-map, get_or-map, length-map, fill_by_all}
use mir.Val.{bool_byte}

-- what is everywhere is at each place, and past the end
pub everywhere : {X : Type 0} (n v : ℕ) (d : X) → get_or (replicate n d) v d ≡ d
everywhere n v d = grind (arith, length-replicate, get_or-replicate, get_or_past)

-- a test as a number
pub one_byte : (b : Bool) → bool_byte b ≡ cond b 1 0
one_byte true = refl
one_byte false = refl

-- a sum over a list is one over its places
by_places : {X : Type 0} (f : X → ℕ) (xs : List X) (d : X) → sum_by f xs ≡ sum_by (λ i. f (get_or xs i d)) (range_with_len 0 (length xs))
by_places f xs d =
    sym (sum-map f xs)
    ∙ ap (λ l. sum_by (λ n. n) l) (fill_by_all (λ i. f (get_or xs i d)) (map f xs) (length xs) 0 (length-map xs f) (λ k low. get_or-map f xs k d 0 low))
    ∙ sum-map (λ i. f (get_or xs i d)) (range_with_len 0 (length xs))

-- the sum of the places is that of the names from 1 on, if place 0 is zero
pub summed : {X : Type 0} (f : X → ℕ) (part : ℕ → ℕ) (size : ℕ) (xs : List X) (d : X) → length xs ≡ size + 1 → f (get_or xs 0 d) ≡ 0 → ((v : ℕ) → f (get_or xs v d) ≡ part v) → sum_by f xs ≡ sum_by part (range_with_len 1 size)
summed f part size xs d places none told =
    let count : length xs ≡ suc size = omega (arith, places) in
    by_places f xs d
    ∙ ap (λ n. sum_by (λ v. f (get_or xs v d)) (range_with_len 0 n)) count
    ∙ (λ i. sum_by (λ v. told v i) (range_with_len 0 (suc size)))
    ∙ (let whole = sum_by-cons part 0 (range_with_len 1 size) in let zero = sym (told 0) ∙ none in omega (arith, whole, zero))

-- the sum after one place was written
pub sum_put : {X : Type 0} (f : X → ℕ) (xs : List X) (v : ℕ) (was it : X) (sum x y : ℕ) → v < length xs → sum ≡ sum_by f xs → was ≡ get_or xs v was → x ≡ f was → y ≡ f it → sum - x + y ≡ sum_by f (set xs v it)
sum_put f xs v was it sum x y within is at left right = grind (arith, sum_by-set, get_or-le-sum_by)

-- it still fits, if no place exceeds the greatest value
pub sum_fits : {X : Type 0} (f : X → ℕ) (most : ℕ) (xs : List X) (v : ℕ) (was it : X) (sum x y : ℕ) → length xs ≤ 65536 → All (λ z. f z ≤ most) xs → f it ≤ most → v < length xs → sum ≡ sum_by f xs → was ≡ get_or xs v was → x ≡ f was → y ≡ f it → sum - x + y ≤ 65536 * most
sum_fits f most xs v was it sum x y few light fits within is at left right =
    let put = sum_put f xs v was it sum x y within is at left right in
    let places = length-set xs v it in
    let whole = sum_by-le f most (set xs v it) (All-set (λ z. f z ≤ most) xs v it fits light) in
    let room = mul-le (length (set xs v it)) most 65536 most (omega (arith, places, few)) (omega arith) in
    let both = le_trans whole room in
    omega (arith, put, both)
