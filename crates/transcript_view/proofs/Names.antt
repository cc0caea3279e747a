-- One text for each name of a node, with one more looked at.
use Rattle.transcript_view.proofs.Prelude.{◌≡◌, ℕ, ◌+◌, ◌-◌, ◌≤◌, Bool, true, false, cond, List, [], ◌∷◌, ◌++◌, filter, sym, ap, ◌∙◌, append-nil, append_assoc, arith, filter-append, range_with_len, flat_map, map-id, flat_map-append, map-range_with_len_more}

range_more : (k n : ℕ) → 1 + k ≡ n → range_with_len 1 (k + 1) ≡ range_with_len 1 k ++ n ∷ []
range_more k n e =
    sym (map-id (range_with_len 1 (k + 1))) ∙ map-range_with_len_more (λ (x : ℕ). x) 1 k n e ∙ ap (λ (l : List ℕ). l ++ n ∷ []) (map-id (range_with_len 1 k))

names_so_far : (p : ℕ → Bool) (n : ℕ) → 1 ≤ n → filter p (range_with_len 1 (n + 1 - 1)) ≡ filter p (range_with_len 1 (n - 1)) ++ filter p (n ∷ [])
names_so_far p n low =
    let count : n + 1 - 1 ≡ n - 1 + 1 = omega (arith, low) in
    let name : 1 + (n - 1) ≡ n = omega (arith, low) in
    ap (λ (k : ℕ). filter p (range_with_len 1 k)) count
    ∙ ap (filter p) (range_more (n - 1) n name)
    ∙ filter-append p (range_with_len 1 (n - 1)) (n ∷ [])

-- one more name
pub names_more : (p : ℕ → Bool) (f : ℕ → List ℕ) (out : List ℕ) (n : ℕ) → 1 ≤ n → (out ++ flat_map f (filter p (range_with_len 1 (n - 1)))) ++ flat_map f (filter p (n ∷ [])) ≡ out ++ flat_map f (filter p (range_with_len 1 (n + 1 - 1)))
names_more p f out n low =
    let so_far = filter p (range_with_len 1 (n - 1)) in
    append_assoc out (flat_map f so_far) (flat_map f (filter p (n ∷ [])))
    ∙ ap (λ (l : List ℕ). out ++ l) (sym (flat_map-append f so_far (filter p (n ∷ []))) ∙ ap (flat_map f) (sym (names_so_far p n low)))

-- what is written of a name that a node has, and of one that no node has
pub drawn : (p : ℕ → Bool) (f : ℕ → List ℕ) (out : List ℕ) (n : ℕ) → p n ≡ true → out ++ flat_map f (filter p (n ∷ [])) ≡ out ++ f n
drawn p f out n has =
    ap (λ (b : Bool). out ++ flat_map f (cond b (n ∷ []) [])) has ∙ ap (λ (l : List ℕ). out ++ l) (append-nil (f n))

pub left_out : (p : ℕ → Bool) (f : ℕ → List ℕ) (out : List ℕ) (n : ℕ) → p n ≡ false → out ++ flat_map f (filter p (n ∷ [])) ≡ out
left_out p f out n none = ap (λ (b : Bool). out ++ flat_map f (cond b (n ∷ []) [])) none ∙ append-nil out
