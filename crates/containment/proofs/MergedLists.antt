-- Two ascending lists that are kept from the same names, taken apart head by head.
use Rattle.containment.proofs.Prelude.{◌≡◌, ℕ, zero, suc, ◌+◌, ◌≤◌, min, Bool, true, false, cond, ◌&&◌, ◌||◌, List, [], ◌∷◌, ◌++◌, filter, None, Some, nat_eq, refl, sym, ap, ap₂, ◌∙◌, subst, append_assoc, arith, range_with_len, eq-eqb, ne_eqb, cond-true, cond-false, append-nil, none-some, same_Some, Network, names, present, least_head, without_head, is_kept}

-- the list ascends from a number on
abbrev pub Rises : ℕ → List ℕ → Type 0
Rises low [] = Unit {0}
Rises low (x ∷ xs) = (low ≤ x) × Rises (suc x) xs

rises_lower : (low high : ℕ) (xs : List ℕ) → low ≤ high → Rises high xs → Rises low xs
rises_lower low high [] le h = tt
rises_lower low high (x ∷ xs) le h = (let e = h.0 in omega arith, h.1)

rises_filter : (p : ℕ → Bool) (low : ℕ) (xs : List ℕ) → Rises low xs → Rises low (filter p xs)
rises_filter p low [] h = tt
rises_filter p low (x ∷ xs) h =
    elim (p x) as (λ b. Rises low (cond b (x ∷ filter p xs) (filter p xs))) [
      | true ↦ (h.0, rises_filter p (suc x) xs h.1)
      | false ↦ rises_lower low (suc x) (filter p xs) (let e = h.0 in omega arith) (rises_filter p (suc x) xs h.1)
    ]

rises_range : (low n : ℕ) → Rises low (range_with_len low n)
rises_range low zero = tt
rises_range low (suc n) =
    (let le : low ≤ low = omega arith in le, subst (λ k. Rises k (range_with_len (low + 1) n)) (let e : low + 1 ≡ suc low = omega arith in e) (rises_range (low + 1) n))

pub names_rise : (net : Network) → Rises 1 (names net)
names_rise net = rises_filter (present net) 1 (range_with_len 1 net.size) (rises_range 1 net.size)

-- ---- the head

head_low : (n v : ℕ) (xs ys : List ℕ) → Rises (suc n) ys → least_head (n ∷ xs) ys ≡ Some v → v ≡ n
head_low n v xs [] up e = sym (same_Some n v e)
head_low n v xs (y ∷ ys) up e = let le = up.0 in let is = same_Some (min n y) v e in omega (arith, le, is)

head_low_second : (n v : ℕ) (xs ys : List ℕ) → Rises (suc n) xs → least_head xs (n ∷ ys) ≡ Some v → v ≡ n
head_low_second n v [] ys up e = sym (same_Some n v e)
head_low_second n v (x ∷ xs) ys up e = let le = up.0 in let is = same_Some (min x n) v e in omega (arith, le, is)

head_gone : (n : ℕ) (xs : List ℕ) → without_head n (n ∷ xs) ≡ xs
head_gone n xs = cond-true (nat_eq n n) xs (n ∷ xs) (eq-eqb n n refl)

head_stays : (n : ℕ) (xs : List ℕ) → Rises (suc n) xs → without_head n xs ≡ xs
head_stays n [] up = refl
head_stays n (x ∷ xs) up = cond-false (nat_eq x n) xs (x ∷ xs) (ne_eqb x n (λ same. let le = up.0 in omega (arith, le, same)))

-- what is left of the names after the head
pub record IsBehind (p q test : ℕ → Bool) (xs ys all : List ℕ) (v : ℕ) : Type 0 where
  pub low : ℕ
  pub rest : List ℕ
  pub rises : Rises low rest
  pub first : without_head v xs ≡ filter p rest
  pub second : without_head v ys ≡ filter q rest
  pub kept : all ≡ cond (test v) (v ∷ filter (is_kept p q test) rest) (filter (is_kept p q test) rest)

pub behind : (p q test : ℕ → Bool) (low : ℕ) (ns : List ℕ) → Rises low ns → (v : ℕ) → least_head (filter p ns) (filter q ns) ≡ Some v → IsBehind p q test (filter p ns) (filter q ns) (filter (is_kept p q test) ns) v
behind p q test low [] up v e = absurd (none-some v e)
behind p q test low (n ∷ ns) up v e = go (λ is. behind p q test (suc n) ns up.1 v is) (p n) (q n) e
  where
    later : (r : ℕ → Bool) → Rises (suc n) (filter r ns)
    later r = rises_filter r (suc n) ns up.1

    at : (xs ys all : List ℕ) → v ≡ n → without_head n xs ≡ filter p ns → without_head n ys ≡ filter q ns → all ≡ cond (test n) (n ∷ filter (is_kept p q test) ns) (filter (is_kept p q test) ns) → IsBehind p q test xs ys all v
    at xs ys all same one two three = record {
      low = suc n;
      rest = ns;
      rises = up.1;
      first = subst (λ x. without_head x xs ≡ filter p ns) (sym same) one;
      second = subst (λ x. without_head x ys ≡ filter q ns) (sym same) two;
      kept = subst (λ x. all ≡ cond (test x) (x ∷ filter (is_kept p q test) ns) (filter (is_kept p q test) ns)) (sym same) three;
    }

    go : (least_head (filter p ns) (filter q ns) ≡ Some v → IsBehind p q test (filter p ns) (filter q ns) (filter (is_kept p q test) ns) v) → (b c : Bool) → least_head (cond b (n ∷ filter p ns) (filter p ns)) (cond c (n ∷ filter q ns) (filter q ns)) ≡ Some v → IsBehind p q test (cond b (n ∷ filter p ns) (filter p ns)) (cond c (n ∷ filter q ns) (filter q ns)) (cond ((b || c) && test n) (n ∷ filter (is_kept p q test) ns) (filter (is_kept p q test) ns)) v
    go more true true is =
        let same = same_Some (min n n) v is in
        at (n ∷ filter p ns) (n ∷ filter q ns) _ (omega (arith, same)) (head_gone n (filter p ns)) (head_gone n (filter q ns)) refl
    go more true false is =
        at (n ∷ filter p ns) (filter q ns) _ (head_low n v (filter p ns) (filter q ns) (later q) is) (head_gone n (filter p ns)) (head_stays n (filter q ns) (later q)) refl
    go more false true is =
        at (filter p ns) (n ∷ filter q ns) _ (head_low_second n v (filter p ns) (filter q ns) (later p) is) (head_stays n (filter p ns) (later p)) (head_gone n (filter q ns)) refl
    go more false false is = more is

nothing : (p q test : ℕ → Bool) (ns : List ℕ) → filter p ns ≡ [] → filter q ns ≡ [] → filter (is_kept p q test) ns ≡ []
nothing p q test [] one two = refl
nothing p q test (n ∷ ns) one two = go (nothing p q test ns) (p n) (q n) one two
  where
    go : (filter p ns ≡ [] → filter q ns ≡ [] → filter (is_kept p q test) ns ≡ []) → (b c : Bool) → cond b (n ∷ filter p ns) (filter p ns) ≡ [] → cond c (n ∷ filter q ns) (filter q ns) ≡ [] → cond ((b || c) && test n) (n ∷ filter (is_kept p q test) ns) (filter (is_kept p q test) ns) ≡ []
    go more true c e f = absurd cc
    go more false true e f = absurd cc
    go more false false e f = more e f

ended : (xs ys : List ℕ) → least_head xs ys ≡ None → (xs ≡ []) × (ys ≡ [])
ended [] [] e = (refl, refl)
ended [] (y ∷ ys) e = absurd cc
ended (x ∷ xs) [] e = absurd cc
ended (x ∷ xs) (y ∷ ys) e = absurd cc

-- ---- the loop

-- What two lists still have to give: with what was listed it is all that is kept of the names.
pub record Remains (names : List ℕ) (p q test : ℕ → Bool) (xs ys list : List ℕ) : Type 0 where
  pub low : ℕ
  pub rest : List ℕ
  pub rises : Rises low rest
  pub first : xs ≡ filter p rest
  pub second : ys ≡ filter q rest
  pub kept : list ++ filter (is_kept p q test) rest ≡ filter (is_kept p q test) names

pub begun : (net : Network) (p q test : ℕ → Bool) (xs ys list : List ℕ) → xs ≡ filter p (names net) → ys ≡ filter q (names net) → list ≡ [] → Remains (names net) p q test xs ys list
begun net p q test xs ys list one two none = record {
  low = 1;
  rest = names net;
  rises = names_rise net;
  first = one;
  second = two;
  kept = ap (λ (zs : List ℕ). zs ++ filter (is_kept p q test) (names net)) none;
}

-- the head is taken from both, and listed if it passes
pub taken : (all : List ℕ) (p q test : ℕ → Bool) (xs ys list list' : List ℕ) (v : ℕ) → Remains all p q test xs ys list → least_head xs ys ≡ Some v → list' ≡ cond (test v) (list ++ v ∷ []) list → Remains all p q test (without_head v xs) (without_head v ys) list'
taken all p q test xs ys list list' v remains head grown =
    let at : least_head (filter p remains.rest) (filter q remains.rest) ≡ Some v = sym (ap₂ least_head remains.first remains.second) ∙ head in
    let next = behind p q test remains.low remains.rest remains.rises v at in
    record {
      low = next.low;
      rest = next.rest;
      rises = next.rises;
      first = ap (without_head v) remains.first ∙ next.first;
      second = ap (without_head v) remains.second ∙ next.second;
      kept = ap (λ (zs : List ℕ). zs ++ filter (is_kept p q test) next.rest) grown
          ∙ joined (test v) (filter (is_kept p q test) next.rest)
          ∙ ap (λ (zs : List ℕ). list ++ zs) (sym next.kept)
          ∙ remains.kept;
    }
  where
    joined : (b : Bool) (later : List ℕ) → cond b (list ++ v ∷ []) list ++ later ≡ list ++ cond b (v ∷ later) later
    joined true later = append_assoc list (v ∷ []) later
    joined false later = refl

-- if neither has a head all that is kept is listed
pub all_taken : (all : List ℕ) (p q test : ℕ → Bool) (xs ys list : List ℕ) → Remains all p q test xs ys list → least_head xs ys ≡ None → list ≡ filter (is_kept p q test) all
all_taken all p q test xs ys list remains none =
    let empty = ended xs ys none in
    sym (append-nil list)
    ∙ ap (λ (zs : List ℕ). list ++ zs) (sym (nothing p q test remains.rest (sym remains.first ∙ empty.0) (sym remains.second ∙ empty.1)))
    ∙ remains.kept
