-- What one edge more or less does to a store's rows and to its network.
use Rattle.graph_store.proofs.Prelude.{◌≡◌, ◌≢◌, ℕ, ◌+◌, ◌-◌, ◌<◌, ◌≤◌, Bool, true, false, not, cond, ◌&&◌, ◌||◌, List, length, eqb, ltb, set, sym, ap, subst, ◌∙◌, arith, ◌⊎◌, insert, remove, IsStrictlyIncreasing, cases_eq, cases_Bool, nat_tests, get_or-set_same, get_or-set_other, length-set, Network, PairSet, edge, linked, present, with_edge, without_edge, has, row_at, edges_of, network_of, put_both, take_both, IsRows, IsStore, IsPlaceOf, IsGapFor, present_range}
use Rattle.std.specs.FinMap as map
use Rattle.graph_store.proofs.PairOrder.{same_pair, has-insert as has_pair-insert, has-remove as has_pair-remove, count-insert, count-remove, same_pairs}
use Rattle.graph_store.proofs.Pairs.{has-edges_of}
use Rattle.graph_store.proofs.AscendingLists.{absent_at_gap, there_at_place, has-insert, has-remove, rising-insert, rising-remove}
use Rattle.graph_store.proofs.Store.{linked_row}

-- whether x and y are a and b, either way round
abbrev joins : ℕ → ℕ → ℕ → ℕ → Bool
joins a b x y = (eqb x a && eqb y b) || (eqb x b && eqb y a)

-- a row with one name inserted or removed, and all others as they were
record RowSwitched (row row' : List ℕ) (w : ℕ) (on : Bool) : Type 0 where
  held : (y : ℕ) → has row' y ≡ cond (eqb y w) on (has row y)
  rising : IsStrictlyIncreasing row'

-- rows with one edge inserted or removed, and all others as they were
record Switched (a b : ℕ) (on : Bool) (rows rows' : List (List ℕ)) : Type 0 where
  places : length rows' ≡ length rows
  held : (x y : ℕ) → has (row_at rows' x) y ≡ cond (joins a b x y) on (has (row_at rows x) y)
  rising : (x : ℕ) → IsStrictlyIncreasing (row_at rows' x)

-- one more that passes, as a choice
or_cond : (b h : Bool) → (b || h) ≡ cond b true h
or_cond b h = grind arith

-- one less that passes, as a choice
and_cond : (b h : Bool) → (not b && h) ≡ cond b false h
and_cond b h = grind arith

-- a name put in at its gap
row_on : (row : List ℕ) (w i : ℕ) → IsStrictlyIncreasing row → IsGapFor row w i → RowSwitched row (insert row i w) w true
row_on row w i up gap = record {
  held = λ y. has-insert row i w y ∙ or_cond (eqb y w) (has row y);
  rising = rising-insert row w i up gap;
}

-- a name taken out at its place
row_off : (row : List ℕ) (w i : ℕ) → IsStrictlyIncreasing row → IsPlaceOf row w i → RowSwitched row (remove row i) w false
row_off row w i up place = record {
  held = λ y. has-remove row i w y up place ∙ and_cond (eqb y w) (has row y);
  rising = rising-remove row i up place.0;
}

-- at a row that is neither end's no edge joins
joins_neither : (a b x y : ℕ) → x ≢ a → x ≢ b → joins a b x y ≡ false
joins_neither a b x y not_a not_b = grind (arith, nat_tests)

-- at the first end's row the other name is the second end
joins_first : (a b x y : ℕ) → a ≢ b → x ≡ a → joins a b x y ≡ eqb y b
joins_first a b x y apart e = grind (arith, nat_tests)

-- and the other way round
joins_second : (a b x y : ℕ) → a ≢ b → x ≡ b → joins a b x y ≡ eqb y a
joins_second a b x y apart e = grind (arith, nat_tests)

-- both ends' rows switched
both_rows : (a b : ℕ) (on : Bool) (rows : List (List ℕ)) (ra rb : List ℕ) → a ≢ b → a < length rows → b < length rows → ((x : ℕ) → IsStrictlyIncreasing (row_at rows x)) → RowSwitched (row_at rows a) ra b on → RowSwitched (row_at rows b) rb a on → Switched a b on rows (set (set rows a ra) b rb)
both_rows a b on rows ra rb apart fits_a fits_b up first second =
    grind (arith, cases_eq, get_or-set_other, get_or-set_same, joins_first, joins_neither, joins_second, length-set)

-- an edge joins its ends either way round
joins_back : (a b x y : ℕ) → joins a b x y ≡ joins a b y x
joins_back a b x y = grind (arith, nat_tests)

-- no edge joins a name with itself
joins_apart : (a b x : ℕ) → a ≢ b → joins a b x x ≡ false
joins_apart a b x apart = grind (arith, nat_tests)

-- what an edge joins is one of its ends
joins_end : (a b x y : ℕ) → joins a b x y ≡ true → (y ≡ a) ⊎ (y ≡ b)
joins_end a b x y h = grind (arith, nat_tests)

-- switched rows are rows
switched_rows : (size : ℕ) (roll : List Bool) (a b : ℕ) (on : Bool) (rows rows' : List (List ℕ)) → IsRows size roll rows → a ≢ b → present (network_of size roll rows) a ≡ true → present (network_of size roll rows) b ≡ true → Switched a b on rows rows' → IsRows size roll rows'
switched_rows size roll a b on rows rows' good apart in_a in_b new = grind (arith, cases_Bool, joins_apart, joins_back, joins_end)

-- the pair of an edge, if its lower end is first
joins_pair : (a b x y : ℕ) → a ≢ b → ltb x y ≡ true → joins a b x y ≡ same_pair (x, y) (edge a b)
joins_pair a b x y apart lt = grind (arith, nat_tests)

-- and no pair whose lower end is second
no_pair : (a b x y : ℕ) → ltb x y ≡ false → a ≢ b → same_pair (x, y) (edge a b) ≡ false
no_pair a b x y ge apart = grind (arith, nat_tests)

-- a pair that is switched, in the set of the pairs that rise
switched_pair : (on t s j h : Bool) → (t ≡ true → j ≡ s) → (t ≡ false → s ≡ false) → (t && cond j on h) ≡ cond s on (t && h)
switched_pair on t s j h same none = grind arith

-- so the set of the pairs has switched the edge, and no other
edges_switched : (a b : ℕ) (on : Bool) (rows rows' : List (List ℕ)) (edges : PairSet) → a ≢ b → Switched a b on rows rows' → ((q : ℕ × ℕ) → map.contains_key edges q ≡ cond (same_pair q (edge a b)) on (map.contains_key (edges_of rows) q)) → edges_of rows' ≡ edges
edges_switched a b on rows rows' edges apart new is =
    same_pairs _ _ (λ x y.
    has-edges_of rows' x y
    ∙ ap (λ t. ltb x y && t) (new.held x y)
    ∙ switched_pair on (ltb x y) (same_pair (x, y) (edge a b)) (joins a b x y) (has (row_at rows x) y) (joins_pair a b x y apart) (λ ge. no_pair a b x y ge apart)
    ∙ sym (is (x, y) ∙ ap (cond (same_pair (x, y) (edge a b)) on) (has-edges_of rows x y)))

-- a store after an edge is switched is one of the network with these edges
switched_store : (size : ℕ) (roll : List Bool) (edges edges' a b : ℕ) (on : Bool) (rows rows' : List (List ℕ)) (ra rb : List ℕ) (pairs : PairSet) → IsStore size roll edges rows → a ≢ b → present (network_of size roll rows) a ≡ true → present (network_of size roll rows) b ≡ true → RowSwitched (row_at rows a) ra b on → RowSwitched (row_at rows b) rb a on → rows' ≡ set (set rows a ra) b rb → ((q : ℕ × ℕ) → map.contains_key pairs q ≡ cond (same_pair q (edge a b)) on (map.contains_key (edges_of rows) q)) → map.len pairs ≡ edges' → edges' ≤ 1048576 → IsStore size roll edges' rows' × (network_of size roll rows' ≡ record (network_of size roll rows) { edges = pairs })
switched_store size roll edges edges' a b on rows rows' ra rb pairs store apart in_a in_b row_a row_b is switched counted few =
    let good = store.is_rows in
    let places : length rows ≡ size + 1 = good.places in
    let low = (present_range (network_of size roll rows) a in_a).1 in
    let high = (present_range (network_of size roll rows) b in_b).1 in
    let new : Switched a b on rows rows' = subst (λ r. Switched a b on rows r) (sym is) (both_rows a b on rows ra rb apart (omega arith) (omega arith) good.rising row_a row_b) in
    let same = edges_switched a b on rows rows' pairs apart new switched in (
      record {
        is_rows = switched_rows size roll a b on rows rows' good apart in_a in_b new;
        few_nodes = store.few_nodes;
        counted = ap map.len same ∙ counted;
        few_edges = few;
      },
      ap (λ (s : PairSet). let net : Network = record { size = size; here = roll; edges = s } in net) same,
    )

-- a store with an edge put in at its two gaps is the store of the network with that edge
pub link_rows : (size : ℕ) (roll : List Bool) (edges a b i j : ℕ) (rows rows' : List (List ℕ)) → IsStore size roll edges rows → a ≢ b → present (network_of size roll rows) a ≡ true → present (network_of size roll rows) b ≡ true → IsGapFor (row_at rows a) b i → IsGapFor (row_at rows b) a j → edges < 1048576 → rows' ≡ put_both rows a i b j → IsStore size roll (edges + 1) rows' × (network_of size roll rows' ≡ with_edge (network_of size roll rows) a b)
link_rows size roll edges a b i j rows rows' store apart in_a in_b gap_a gap_b few is =
    let good = store.is_rows in
    let absent : linked (network_of size roll rows) a b ≡ false = linked_row size roll rows a b good ∙ absent_at_gap (row_at rows a) b i gap_a in
    switched_store size roll edges (edges + 1) a b true rows rows' _ _ (map.insert (edges_of rows) (edge a b) tt) store apart in_a in_b (row_on _ b i (good.rising a) gap_a) (row_on _ a j (good.rising b) gap_b) is
    (λ q. has_pair-insert (edges_of rows) (edge a b) q ∙ or_cond (same_pair q (edge a b)) (map.contains_key (edges_of rows) q))
    (count-insert (edges_of rows) (edge a b) absent ∙ ap (λ n. n + 1) store.counted)
    (omega arith)

-- a store with an edge taken out at its two places is the store of the network without that edge
pub unlink_rows : (size : ℕ) (roll : List Bool) (edges a b i j : ℕ) (rows rows' : List (List ℕ)) → IsStore size roll edges rows → a ≢ b → present (network_of size roll rows) a ≡ true → present (network_of size roll rows) b ≡ true → IsPlaceOf (row_at rows a) b i → IsPlaceOf (row_at rows b) a j → rows' ≡ take_both rows a i b j → IsStore size roll (edges - 1) rows' × (network_of size roll rows' ≡ without_edge (network_of size roll rows) a b)
unlink_rows size roll edges a b i j rows rows' store apart in_a in_b place_a place_b is =
    let good = store.is_rows in
    let few = store.few_edges in
    let there : linked (network_of size roll rows) a b ≡ true = linked_row size roll rows a b good ∙ there_at_place (row_at rows a) b i place_a in
    switched_store size roll edges (edges - 1) a b false rows rows' _ _ (map.remove (edges_of rows) (edge a b)) store apart in_a in_b (row_off _ b i (good.rising a) place_a) (row_off _ a j (good.rising b) place_b) is
    (λ q. has_pair-remove (edges_of rows) (edge a b) q ∙ and_cond (same_pair q (edge a b)) (map.contains_key (edges_of rows) q))
    (count-remove (edges_of rows) (edge a b) there ∙ ap (λ n. n - 1) store.counted)
    (omega arith)
