-- What a store's rows say of its network, and what one edge more or less does to both.
use Rattle.graph_store.proofs.Prelude.{◌≡◌, ℕ, ◌+◌, ◌<◌, ◌≤◌, Bool, true, false, cond, ◌&&◌, List, [], ◌∷◌, length, get_or, refl, ltb, leb, replicate, sym, ap, subst, ◌∙◌, arith, All, IsTrue, nat_eq_equiv, range_with_len, IsStrictlyIncreasing, cases_lt, true≢false, lt-ltb, get_or-replicate, get_or_past, length-replicate, filter_agree, length-map-range_with_len, get_or-map-range_with_len, All-from_any, Network, PairSet, linked, present, neighbours, names, first_names, edgeless_with, edge_count, contains-empty, present_range, has, row_at, edges_of, network_of, IsRows, IsStore, and-false, nat_tests}
use Rattle.std.proofs.Common.{filter}
use Rattle.std.specs.FinMap as map
use Rattle.graph_store.proofs.PairOrder.{count-empty, same_pairs}
use Rattle.graph_store.proofs.Pairs.{has-edges_of}
use Rattle.graph_store.proofs.AscendingLists.{part_of_names}

-- the roll says which names are present
pub on_roll : (net : Network) (v : ℕ) → length net.here ≡ net.size + 1 → get_or net.here 0 false ≡ false → get_or net.here v false ≡ present net v
on_roll net v len nobody = grind (arith, cases_lt, get_or_past, nat_tests)

-- two tests one after the other
filter_both : (p q : ℕ → Bool) (xs : List ℕ) → filter p (filter q xs) ≡ filter (λ x. q x && p x) xs
filter_both p q [] = refl
filter_both p q (x ∷ xs) =
    elim (q x) as (λ b. filter p (cond b (x ∷ filter q xs) (filter q xs)) ≡ cond (b && p x) (x ∷ filter (λ y. q y && p y) xs) (filter (λ y. q y && p y) xs)) [
      | true ↦ ap (λ l. cond (p x) (x ∷ l) l) (filter_both p q xs)
      | false ↦ filter_both p q xs
    ]

implied : (p q : Bool) → (q ≡ true → p ≡ true) → (p && q) ≡ q
implied p q h = grind arith

-- an edge with its lower end first
ordered : (rows : List (List ℕ)) (a b x y : ℕ) → x ≡ a → y ≡ b → a < b → map.contains_key (edges_of rows) (x, y) ≡ has (row_at rows a) b
ordered rows a b x y p q lt =
    (λ i. map.contains_key (edges_of rows) (p i, q i)) ∙ has-edges_of rows a b ∙ ap (λ t. t && has (row_at rows a) b) (lt-ltb a b lt)

-- two names are linked if one is in the other's row
pub linked_row : (size : ℕ) (roll : List Bool) (rows : List (List ℕ)) (a b : ℕ) → IsRows size roll rows → linked (network_of size roll rows) a b ≡ has (row_at rows a) b
linked_row size roll rows a b good = grind (arith, cases_lt, has-edges_of, nat_tests)

-- the same of the network that the rows are seen as
pub linked_by : (size : ℕ) (roll : List Bool) (rows : List (List ℕ)) (net : Network) (a b : ℕ) → network_of size roll rows ≡ net → IsRows size roll rows → has (row_at rows a) b ≡ linked net a b
linked_by size roll rows net a b seen good = sym (linked_row size roll rows a b good) ∙ ap (λ n. linked n a b) seen

-- a name's row is the list of its neighbours
pub neighbours_row : (size : ℕ) (roll : List Bool) (rows : List (List ℕ)) (v : ℕ) → IsRows size roll rows → neighbours (network_of size roll rows) v ≡ row_at rows v
neighbours_row size roll rows v good =
    filter_agree (linked (network_of size roll rows) v) (has (row_at rows v)) (λ w. linked_row size roll rows v w good) (names (network_of size roll rows))
    ∙ filter_both (has (row_at rows v)) (present (network_of size roll rows)) (range_with_len 1 size)
    ∙ filter_agree (λ w. present (network_of size roll rows) w && has (row_at rows v) w) (has (row_at rows v)) (λ w. implied _ _ (good.within v w)) (range_with_len 1 size)
    ∙ part_of_names size (row_at rows v) (good.rising v) (λ w h. present_range (network_of size roll rows) w (good.within v w h))

-- the same of the network that the rows are seen as
pub neighbours_by : (size : ℕ) (roll : List Bool) (rows : List (List ℕ)) (net : Network) (v : ℕ) → network_of size roll rows ≡ net → IsRows size roll rows → row_at rows v ≡ neighbours net v
neighbours_by size roll rows net v seen good = sym (neighbours_row size roll rows v good) ∙ ap (λ n. neighbours n v) seen

-- linked names are both present
pub linked_present : (size : ℕ) (roll : List Bool) (rows : List (List ℕ)) (a b : ℕ) → IsRows size roll rows → linked (network_of size roll rows) a b ≡ true → (present (network_of size roll rows) a ≡ true) × (present (network_of size roll rows) b ≡ true)
linked_present size roll rows a b good h =
    let in_row = sym (linked_row size roll rows a b good) ∙ h in
    (good.within b a (good.mutual_in b a ∙ in_row), good.within a b in_row)

-- each name in a row is linked and present
pub all_linked : (size : ℕ) (roll : List Bool) (rows : List (List ℕ)) (v : ℕ) → IsRows size roll rows → All (λ w. IsTrue (linked (network_of size roll rows) v w)) (row_at rows v)
all_linked size roll rows v good =
    All-from_any nat_eq_equiv (λ w. IsTrue (linked (network_of size roll rows) v w)) (row_at rows v) (λ w h. linked_row size roll rows v w good ∙ h)

-- and each is present
pub all_present : (size : ℕ) (roll : List Bool) (rows : List (List ℕ)) (v : ℕ) → IsRows size roll rows → All (λ w. IsTrue (present (network_of size roll rows) w)) (row_at rows v)
all_present size roll rows v good =
    All-from_any nat_eq_equiv (λ w. IsTrue (present (network_of size roll rows) w)) (row_at rows v) (good.within v)

-- a row of empty rows is empty
empty_row : (n v : ℕ) → row_at (replicate n []) v ≡ []
empty_row n v = grind (arith, cases_lt, get_or-replicate, get_or_past, length-replicate)

-- empty rows are the network with no edge
pub empty_network : (size count : ℕ) → network_of size (first_names size count) (replicate (size + 1) []) ≡ edgeless_with size count
empty_network size count =
    ap (λ (edges : PairSet). let net : Network = record { size = size; here = first_names size count; edges = edges } in net)
    (same_pairs _ _ (λ a b. has-edges_of (replicate (size + 1) []) a b ∙ ap (λ row. ltb a b && has row b) (empty_row (size + 1) a) ∙ and-false (ltb a b) ∙ sym (contains-empty (a, b))))

-- empty rows are a store
pub empty_store : (size count : ℕ) → size ≤ 65535 → IsStore size (first_names size count) 0 (replicate (size + 1) [])
empty_store size count few = record {
  is_rows = record {
    places = length-replicate (size + 1) [];
    roll_len = length-map-range_with_len (λ v. leb 1 v && leb v count) 0 (size + 1);
    nobody = get_or-map-range_with_len (λ v. leb 1 v && leb v count) 0 (size + 1) 0 0 false (omega arith) (omega arith);
    within = λ v w h. absurd (true≢false (sym h ∙ ap (λ row. has row w) (empty_row (size + 1) v)));
    mutual_in = λ v w. ap (λ row. has row w) (empty_row (size + 1) v) ∙ sym (ap (λ row. has row v) (empty_row (size + 1) w));
    apart = λ v. ap (λ row. has row v) (empty_row (size + 1) v);
    rising = λ v. subst IsStrictlyIncreasing (sym (empty_row (size + 1) v)) (λ k inside. absurd (omega arith));
  };
  few_nodes = few;
  counted = ap edge_count (empty_network size count) ∙ count-empty;
  few_edges = omega arith;
}
