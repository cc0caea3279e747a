-- Which pairs neighbour lists hold.
use Rattle.graph_store.proofs.Prelude.{◌≡◌, ℕ, ◌+◌, suc, zero, Bool, true, false, cond, ◌&&◌, ◌||◌, List, [], ◌∷◌, map, eqb, ltb, get_or, sym, refl, ap, ◌∙◌, ◌<◌, arith, filter, list_any, ne_eqb, eq-eqb, eqb-true, or_from, and_left, list_any-append, and-false, or-false, row_at, has, pairs_from}
use Rattle.std.specs.FinMap as fin
use Rattle.graph_store.specs.Rows.{edges_of}
use Rattle.graph_store.proofs.PairOrder.{same_pair, has-pair_set}

-- a name that is kept, since it is above the row's
kept : (p q t h : Bool) → (q ≡ true → t ≡ true) → ((p && q) || (p && (t && h))) ≡ (p && (t && (q || h)))
kept p q t h so = grind arith

-- a name that is left out, since it is not
left_out : (p q t h : Bool) → (q ≡ true → t ≡ false) → (p && (t && h)) ≡ (p && (t && (q || h)))
left_out p q t h so = grind arith

-- a row's pairs, met at (a, b)
in_row : (v a b : ℕ) (row : List ℕ) → list_any (same_pair (a, b)) (map (λ w. (v, w)) (filter (ltb v) row)) ≡ (eqb a v && (ltb v b && has row b))
in_row v a b [] = sym (ap (λ t. eqb a v && t) (and-false (ltb v b)) ∙ and-false (eqb a v))
in_row v a b (w ∷ row) =
    elim (ltb v w) as (λ t. ltb v w ≡ t → list_any (same_pair (a, b)) (map (λ x. (v, x)) (cond t (w ∷ filter (ltb v) row) (filter (ltb v) row))) ≡ (eqb a v && (ltb v b && (eqb b w || has row b)))) [
      | true ↦ λ e. ap (λ r. (eqb a v && eqb b w) || r) (in_row v a b row) ∙ kept (eqb a v) (eqb b w) (ltb v b) (has row b) (λ same. ap (ltb v) (eqb-true b w same) ∙ e)
      | false ↦ λ e. in_row v a b row ∙ left_out (eqb a v) (eqb b w) (ltb v b) (has row b) (λ same. ap (ltb v) (eqb-true b w same) ∙ e)
    ] refl

-- the rows from v on hold no pair whose lower end is below v
below_rows : (v a b : ℕ) (rows : List (List ℕ)) → a < v → list_any (same_pair (a, b)) (pairs_from v rows) ≡ false
below_rows v a b [] lt = refl
below_rows v a b (row ∷ rows) lt =
    list_any-append (same_pair (a, b)) (map (λ w. (v, w)) (filter (ltb v) row)) (pairs_from (v + 1) rows)
    ∙ or_from _ _ (in_row v a b row ∙ and_left (eqb a v) _ (ne_eqb a v (λ e. omega (arith, e)))) (below_rows (v + 1) a b rows (omega arith))

-- the rows from v on hold the pairs of each row at its place
in_rows : (v k a b : ℕ) (rows : List (List ℕ)) → a ≡ v + k → list_any (same_pair (a, b)) (pairs_from v rows) ≡ (ltb a b && has (get_or rows k []) b)
in_rows v k a b [] e = sym (and-false (ltb a b))
in_rows v zero a b (row ∷ rows) e =
    let same : a ≡ v = omega (arith, e) in
    list_any-append (same_pair (a, b)) (map (λ w. (v, w)) (filter (ltb v) row)) (pairs_from (v + 1) rows)
    ∙ ap (λ r. list_any (same_pair (a, b)) (map (λ w. (v, w)) (filter (ltb v) row)) || r) (below_rows (v + 1) a b rows (omega arith))
    ∙ or-false _
    ∙ in_row v a b row
    ∙ ap (λ t. t && (ltb v b && has row b)) (eq-eqb a v same)
    ∙ ap (λ x. ltb x b && has row b) (sym same)
in_rows v (suc k) a b (row ∷ rows) e =
    list_any-append (same_pair (a, b)) (map (λ w. (v, w)) (filter (ltb v) row)) (pairs_from (v + 1) rows)
    ∙ ap (λ r. r || list_any (same_pair (a, b)) (pairs_from (v + 1) rows)) (in_row v a b row ∙ and_left (eqb a v) _ (ne_eqb a v (λ same. omega (arith, same, e))))
    ∙ in_rows (v + 1) k a b rows (omega (arith, e))

-- the edges of rows: each pair in the row of its lower end
pub has-edges_of : (rows : List (List ℕ)) (a b : ℕ) → fin.contains_key (edges_of rows) (a, b) ≡ (ltb a b && has (row_at rows a) b)
unfolding edges_of
has-edges_of rows a b = has-pair_set (pairs_from 0 rows) (a, b) ∙ in_rows 0 a a b rows (omega arith)
