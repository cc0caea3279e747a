-- Ascending lists: such a list is the part of a range that it has, and it still ascends after an insertion or
-- a removal.
use Rattle.graph_store.proofs.Prelude.{◌≡◌, ◌≢◌, ℕ, ◌+◌, ◌-◌, ◌<◌, ◌≤◌, suc, zero, Bool, true, false, not, cond, ◌&&◌, ◌||◌, List, [], ◌∷◌, ◌++◌, length, eqb, get_or, take, drop, sym, refl, ap, ◌∙◌, arith, add-one, ⊎_elim, filter, range_with_len, insert, remove, IsStrictlyIncreasing, ne_eqb, eq-eqb, eqb-true, or_from, cases_eq, cases_lt, true≢false, or_right, take-append-drop, get_or-take, get_or-drop, length-take, length-drop, get_or_default, length-insert, get_or-insert_below, get_or-insert_at, get_or-insert_above, length-remove, get_or-remove_below, get_or-remove_above, list_any-append, list_any_at, list_any_none, AllPairs-from_increasing, drop-cons, has, IsPlaceOf, IsGapFor}

-- the names rise, from a on
unfoldable pub RisesFrom : ℕ → List ℕ → Type 0
RisesFrom a [] = Unit {0}
RisesFrom a (x ∷ xs) = (a ≤ x) × RisesFrom (x + 1) xs

-- a list whose names rise by places rises from any lower name on
pub rises_from : (a x : ℕ) (xs : List ℕ) → a ≤ x → IsStrictlyIncreasing (x ∷ xs) → RisesFrom a (x ∷ xs)
unfolding RisesFrom
rises_from a x [] low up = (low, tt)
rises_from a x (y ∷ ys) low up =
    let next : x < y = up 0 (omega arith) in
    (low, rises_from (x + 1) y ys (omega arith) (λ k inside. let h = up (suc k) (omega arith) in simp add-one (simp add-one at h)))

-- and from any name that is lower still
pub lower_rises : (a b : ℕ) (xs : List ℕ) → b ≤ a → RisesFrom a xs → RisesFrom b xs
unfolding RisesFrom
lower_rises a b [] low up = tt
lower_rises a b (x ∷ xs) low up = (let le = up.0 in omega arith, up.1)

-- a name below all others is not there
below_all : (a y : ℕ) (xs : List ℕ) → RisesFrom a xs → y < a → has xs y ≡ false
unfolding RisesFrom
below_all a y [] up low = refl
below_all a y (x ∷ xs) up low =
    let le = up.0 in
    or_from _ _ (ne_eqb y x (λ e. omega (arith, e))) (below_all (x + 1) y xs up.1 (omega arith))

-- two tests that agree from a on keep the same part of a range from a on
same_part : (p q : ℕ → Bool) (n a : ℕ) → ((y : ℕ) → a ≤ y → p y ≡ q y) → filter p (range_with_len a n) ≡ filter q (range_with_len a n)
same_part p q zero a same = refl
same_part p q (suc n) a same =
    let rest = same_part p q n (a + 1) (λ y le. same y (omega arith)) in
    λ i. cond (same a (omega arith) i) (a ∷ rest i) (rest i)

-- a rising list within a range is the part of the range that it has
part_of_range : (n a : ℕ) (xs : List ℕ) → RisesFrom a xs → ((y : ℕ) → has xs y ≡ true → y < a + n) → filter (has xs) (range_with_len a n) ≡ xs
unfolding RisesFrom
part_of_range zero a [] up high = refl
part_of_range zero a (x ∷ xs) up high =
    let le = up.0 in
    let lt = high x (ap (λ b. b || has xs x) (eq-eqb x x refl)) in
    absurd (omega arith)
part_of_range (suc n) a [] up high = part_of_range n (a + 1) [] tt (λ y h. absurd (true≢false (sym h)))
part_of_range (suc n) a (x ∷ xs) up high =
    ⊎_elim
    (λ (e : a ≡ x).
    let rest = part_of_range n (a + 1) xs (lower_rises (x + 1) (a + 1) xs (omega arith) up.1) (λ y h. let lt = high y (or_right (eqb y x) (has xs y) h) in omega arith) in
    ap (λ b. cond (b || has xs a) (a ∷ filter (has (x ∷ xs)) (range_with_len (a + 1) n)) (filter (has (x ∷ xs)) (range_with_len (a + 1) n))) (eq-eqb a x e)
    ∙ ap (λ l. a ∷ l) (same_part (has (x ∷ xs)) (has xs) n (a + 1) (λ y le. ap (λ b. b || has xs y) (ne_eqb y x (λ same. omega arith))) ∙ rest)
    ∙ ap (λ z. z ∷ xs) e)
    (λ (apart : a ≢ x).
    let le = up.0 in
    let rest = part_of_range n (a + 1) (x ∷ xs) (omega arith, up.1) (λ y h. let lt = high y h in omega arith) in
    ap (λ b. cond b (a ∷ filter (has (x ∷ xs)) (range_with_len (a + 1) n)) (filter (has (x ∷ xs)) (range_with_len (a + 1) n))) (below_all (a + 1) a (x ∷ xs) (omega arith, up.1) (omega arith))
    ∙ rest)
    (cases_eq a x)

-- a rising list of names from 1 to n is the part of the names that it has
pub part_of_names : (n : ℕ) (xs : List ℕ) → IsStrictlyIncreasing xs → ((w : ℕ) → has xs w ≡ true → (1 ≤ w) × (w ≤ n)) → filter (has xs) (range_with_len 1 n) ≡ xs
unfolding RisesFrom
part_of_names n [] up within = part_of_range n 1 [] tt (λ y h. absurd (true≢false (sym h)))
part_of_names n (x ∷ xs) up within =
    let low = within x (ap (λ b. b || has xs x) (eq-eqb x x refl)) in
    part_of_range n 1 (x ∷ xs) (rises_from 1 x xs low.0 up) (λ y h. let high = within y h in omega arith)

-- a name that has a gap is not there
pub absent_at_gap : (row : List ℕ) (w i : ℕ) → IsGapFor row w i → has row w ≡ false
absent_at_gap row w i gap =
    list_any_none (eqb w) row (λ k d inside. ne_eqb w (get_or row k d) (λ e. grind (arith, cases_lt, gap.above k, gap.below k, get_or_default row k d 0 inside)))

-- a name that has a place is there
pub there_at_place : (row : List ℕ) (w i : ℕ) → IsPlaceOf row w i → has row w ≡ true
there_at_place row w i place = list_any_at (eqb w) row i 0 place.0 (eq-eqb w (get_or row i 0) (sym place.1))

-- the first two of three tests in the other order
or_swap : (a b c : Bool) → (a || (b || c)) ≡ (b || (a || c))
or_swap a b c = grind arith

-- one more name is there
pub has-insert : (row : List ℕ) (i w y : ℕ) → has (insert row i w) y ≡ (eqb y w || has row y)
has-insert row i w y =
    list_any-append (eqb y) (take i row) (w ∷ drop i row)
    ∙ or_swap (has (take i row) y) (eqb y w) (has (drop i row) y)
    ∙ ap (λ b. eqb y w || b) (sym (list_any-append (eqb y) (take i row) (drop i row)) ∙ ap (λ l. has l y) (take-append-drop i row))

-- the name at another place is another name
other_place : (row : List ℕ) (i k d : ℕ) → IsStrictlyIncreasing row → i < length row → k < length row → k ≢ i → eqb (get_or row i 0) (get_or row k d) ≡ false
other_place row i k d up inside there apart =
    ne_eqb _ _ (λ e. grind (arith, cases_lt, get_or_default row k d 0 there, AllPairs-from_increasing row up k i 0, AllPairs-from_increasing row up i k 0))

-- a name that comes once is gone when it is removed
gone : (row : List ℕ) (i : ℕ) → IsStrictlyIncreasing row → i < length row → has (remove row i) (get_or row i 0) ≡ false
gone row i up inside =
    list_any-append (eqb (get_or row i 0)) (take i row) (drop (suc i) row)
    ∙ or_from _ _
    (list_any_none (eqb (get_or row i 0)) (take i row) (λ k d there.
    let lt : k < i = omega (arith, length-take i row) in
    ap (eqb (get_or row i 0)) (get_or-take i row k d lt) ∙ other_place row i k d up inside (omega (arith, length-take i row)) (λ e. omega arith)))
    (list_any_none (eqb (get_or row i 0)) (drop (suc i) row) (λ k d there.
    ap (eqb (get_or row i 0)) (get_or-drop (suc i) row k d) ∙ other_place row i (suc i + k) d up inside (omega (arith, length-drop (suc i) row)) (λ e. omega arith)))

-- a test that fails between two others
skip : (a b c : Bool) → b ≡ false → (a || c) ≡ (not b && (a || (b || c)))
skip a b c e = grind arith

-- the removed name is not there, and the others are
pub has-remove : (row : List ℕ) (i w y : ℕ) → IsStrictlyIncreasing row → IsPlaceOf row w i → has (remove row i) y ≡ (not (eqb y w) && has row y)
has-remove row i w y up place =
    let inside : i < length row = place.0 in
    let parts : has row y ≡ (has (take i row) y || (eqb y (get_or row i 0) || has (drop (suc i) row) y)) = ap (λ l. has l y) (sym (take-append-drop i row) ∙ ap (λ l. take i row ++ l) (drop-cons row i 0 inside)) ∙ list_any-append (eqb y) (take i row) (get_or row i 0 ∷ drop (suc i) row) in
    grind (arith, eqb-true, gone, list_any-append)

-- with a name put in at its gap a row still rises
pub rising-insert : (row : List ℕ) (w i : ℕ) → IsStrictlyIncreasing row → IsGapFor row w i → IsStrictlyIncreasing (insert row i w)
rising-insert row w i up gap k inside =
    let fits : i ≤ length row = gap.inside in
    let len = length-insert row i w fits in
    grind (arith, cases_lt, gap.above k, gap.below k, get_or-insert_above, get_or-insert_at, get_or-insert_below, up k, up (k - 1))

-- with a name taken out a row still rises
pub rising-remove : (row : List ℕ) (i : ℕ) → IsStrictlyIncreasing row → i < length row → IsStrictlyIncreasing (remove row i)
rising-remove row i up there k inside =
    let len = length-remove row i there in
    grind (arith, cases_lt, get_or-remove_above, get_or-remove_below, up k, up (k + 1))
