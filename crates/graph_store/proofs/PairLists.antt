-- The pairs of rows rise, so the set of them lists them as they are.
use Rattle.graph_store.proofs.Prelude.{◌≡◌, ℕ, ◌+◌, ◌<◌, suc, Bool, true, false, cond, ◌||◌, List, [], ◌∷◌, ◌++◌, length, get_or, take, append_assoc, refl, sym, ap, ap₂, ◌∙◌, arith, filter, nat_lt, IsStrictlyIncreasing, nat_cmp, ordering_then, nat_cmp_is, Less, Equal, eq-eqb, true≢false, append-nil, nil_from_length, length-take, take_more, pair_cmp, pair_set, row_at, has, pairs_from, IsRows, pair_total}
use Rattle.std.specs.Prelude.{map as list_map}
use Rattle.std.specs.FinMap as map
use Rattle.graph_store.specs.Rows.{edges_of}
use Rattle.graph_store.proofs.AscendingLists.{RisesFrom, rises_from, lower_rises}

-- each pair is below the next one
abbrev pub RiseBy : List (ℕ × ℕ) → Type 0
RiseBy [] = Unit {0}
RiseBy (p ∷ []) = Unit {0}
RiseBy (p ∷ q ∷ pairs) = (pair_cmp p q ≡ Less) × RiseBy (q ∷ pairs)

empty_entries : map.entries (pair_set []) ≡ []
empty_entries = nil_from_length _ (sym (map.len-entries (pair_set [])) ∙ map.len-empty pair_cmp (Unit {0}))

-- what is below the first entry comes first
put_first : (p q : ℕ × ℕ) (es : List ((ℕ × ℕ) × Unit {0})) → pair_cmp p q ≡ Less → map.put pair_cmp p tt ((q, tt) ∷ es) ≡ (p, tt) ∷ (q, tt) ∷ es
put_first p q es less = rw less refl

-- the set of pairs that rise lists them as they are
entries_rising : (pairs : List (ℕ × ℕ)) → RiseBy pairs → map.entries (pair_set pairs) ≡ list_map (λ p. (p, tt)) pairs
entries_rising [] up = empty_entries
entries_rising (p ∷ []) up = map.entries-insert pair_total (pair_set []) p tt ∙ ap (map.put pair_cmp p tt) empty_entries
entries_rising (p ∷ q ∷ pairs) up =
    map.entries-insert pair_total (pair_set (q ∷ pairs)) p tt
    ∙ ap (map.put pair_cmp p tt) (entries_rising (q ∷ pairs) up.1)
    ∙ put_first p q (list_map (λ p. (p, tt)) pairs) up.0

keys_of_pairs : (pairs : List (ℕ × ℕ)) → list_map (λ (e : (ℕ × ℕ) × Unit {0}). e.0) (list_map (λ p. (p, tt)) pairs) ≡ pairs
keys_of_pairs [] = refl
keys_of_pairs (p ∷ pairs) = ap (λ l. p ∷ l) (keys_of_pairs pairs)

-- so a walk that meets the edges in their order is the list of the edges
keys_rising : (pairs : List (ℕ × ℕ)) → RiseBy pairs → map.keys (pair_set pairs) ≡ pairs
keys_rising pairs up = ap (list_map (λ e. e.0)) (entries_rising pairs up) ∙ keys_of_pairs pairs

-- ---- the pairs of rows rise

-- the first pair, if there is one, has a higher lower end
abbrev Starts : ℕ → List (ℕ × ℕ) → Type 0
Starts v [] = Unit {0}
Starts v (p ∷ pairs) = v < p.0

first_less : (p q : ℕ × ℕ) → p.0 < q.0 → pair_cmp p q ≡ Less
first_less p q lt = ap (λ o. ordering_then o (nat_cmp p.1 q.1)) (sym (nat_cmp_is p.0 q.0 Less lt))

second_less : (v w x : ℕ) → w < x → pair_cmp (v, w) (v, x) ≡ Less
second_less v w x lt = ap₂ (λ o r. ordering_then o r) (sym (nat_cmp_is v v Equal refl)) (sym (nat_cmp_is w x Less lt))

rises_filter : (p : ℕ → Bool) (a : ℕ) (xs : List ℕ) → RisesFrom a xs → RisesFrom a (filter p xs)
unfolding RisesFrom
rises_filter p a [] up = tt
rises_filter p a (x ∷ xs) up = step (p x) (rises_filter p (x + 1) xs up.1)
  where
    step : (b : Bool) → RisesFrom (x + 1) (filter p xs) → RisesFrom a (cond b (x ∷ filter p xs) (filter p xs))
    step true rest = (up.0, rest)
    step false rest = let le = up.0 in lower_rises (x + 1) a (filter p xs) (omega (arith, le)) rest

row_rises : (row : List ℕ) → IsStrictlyIncreasing row → RisesFrom 0 row
unfolding RisesFrom
row_rises [] up = tt
row_rises (x ∷ xs) up = rises_from 0 x xs (omega arith) up

row_then : (v a : ℕ) (ws : List ℕ) (rest : List (ℕ × ℕ)) → RisesFrom a ws → Starts v rest → RiseBy rest → RiseBy (list_map (λ w. (v, w)) ws ++ rest)
unfolding RisesFrom
row_then v a [] rest up starts rises = rises
row_then v a (w ∷ []) [] up starts rises = tt
row_then v a (w ∷ []) (p ∷ rest) up starts rises = (first_less (v, w) p starts, rises)
row_then v a (w ∷ x ∷ ws) rest up starts rises =
    let lt = up.1.0 in (second_less v w x (omega (arith, lt)), row_then v (w + 1) (x ∷ ws) rest up.1 starts rises)

row_starts : (u v : ℕ) (ws : List ℕ) (rest : List (ℕ × ℕ)) → u < v → Starts u rest → Starts u (list_map (λ w. (v, w)) ws ++ rest)
row_starts u v [] rest lt starts = starts
row_starts u v (w ∷ ws) rest lt starts = lt

rows_start : (u v : ℕ) (rows : List (List ℕ)) → u < v → Starts u (pairs_from v rows)
rows_start u v [] lt = tt
rows_start u v (row ∷ rows) lt = row_starts u v (filter (nat_lt v) row) (pairs_from (v + 1) rows) lt (rows_start u (v + 1) rows (omega arith))

pairs_rise : (v : ℕ) (rows : List (List ℕ)) → ((k : ℕ) → IsStrictlyIncreasing (row_at rows k)) → RiseBy (pairs_from v rows)
pairs_rise v [] up = tt
pairs_rise v (row ∷ rows) up =
    row_then v 0 (filter (nat_lt v) row) (pairs_from (v + 1) rows) (rises_filter (nat_lt v) 0 row (row_rises row (up 0))) (rows_start v (v + 1) rows (omega arith)) (pairs_rise (v + 1) rows (λ k. up (suc k)))

-- so the edges are these pairs, in this order
pub edges_listed : (rows : List (List ℕ)) → ((k : ℕ) → IsStrictlyIncreasing (row_at rows k)) → map.keys (edges_of rows) ≡ pairs_from 0 rows
unfolding edges_of
edges_listed rows up = keys_rising (pairs_from 0 rows) (pairs_rise 0 rows up)

-- ---- one more row, and one more name of a row

-- the pairs of a row
abbrev pub pairs_of : ℕ → List ℕ → List (ℕ × ℕ)
pairs_of v row = list_map (λ w. (v, w)) (filter (nat_lt v) row)

pairs_more : (v k : ℕ) (rows : List (List ℕ)) → k < length rows → pairs_from v (take (k + 1) rows) ≡ pairs_from v (take k rows) ++ pairs_of (v + k) (get_or rows k [])
pairs_more v k rows within = ap (pairs_from v) (take_more rows k [] within) ∙ behind v k (take k rows) (get_or rows k []) (length-take-below k rows within)
  where
    length-take-below : (k : ℕ) (rows : List (List ℕ)) → k < length rows → length (take k rows) ≡ k
    length-take-below k rows lt = omega (arith, length-take k rows, lt)

    behind : (v k : ℕ) (some : List (List ℕ)) (row : List ℕ) → length some ≡ k → pairs_from v (some ++ row ∷ []) ≡ pairs_from v some ++ pairs_of (v + k) row
    behind v k [] row len = append-nil (pairs_of v row) ∙ (let same : v ≡ v + k = omega (arith, len) in ap (λ u. pairs_of u row) same)
    behind v k (first ∷ some) row len =
        let count : length some + 1 ≡ k = omega (arith, len) in
        let same : v + 1 + length some ≡ v + k = omega (arith, count) in
        ap (λ l. pairs_of v first ++ l) (behind (v + 1) (length some) some row refl ∙ ap (λ u. pairs_from (v + 1) some ++ pairs_of u row) same)
        ∙ sym (append_assoc (pairs_of v first) (pairs_from (v + 1) some) (pairs_of (v + k) row))

-- of the rows from the first on
pub pairs_next : (k : ℕ) (rows : List (List ℕ)) → k < length rows → pairs_from 0 (take (k + 1) rows) ≡ pairs_from 0 (take k rows) ++ pairs_of k (get_or rows k [])
pairs_next k rows within = pairs_more 0 k rows within ∙ (let same : 0 + k ≡ k = omega arith in ap (λ u. pairs_from 0 (take k rows) ++ pairs_of u (get_or rows k [])) same)

-- the row at index 0 has no name
pub nobody_row : (size : ℕ) (roll : List Bool) (rows : List (List ℕ)) → IsRows size roll rows → row_at rows 0 ≡ []
nobody_row size roll rows good = none (row_at rows 0) (λ w h. true≢false (sym (good.within w 0 (sym (good.mutual_in 0 w) ∙ h))))
  where
    none : (row : List ℕ) → ((w : ℕ) → has row w ≡ true → ⊥) → row ≡ []
    none [] out = refl
    none (x ∷ row) out = absurd (out x (ap (λ b. b || has row x) (eq-eqb x x refl)))
