-- A node that leaves: its edges go one by one from its last neighbour, and then its place.
use Rattle.graph_store.proofs.Prelude.{◌≡◌, ℕ, ◌-◌, ◌<◌, ◌≤◌, Bool, true, false, not, cond, ◌&&◌, List, [], ◌∷◌, length, leb, get_or, set, Option, None, Some, sym, refl, ap, subst, ◌∙◌, arith, slice_get, MatchOption, or_cases, eqb-true, ne_eqb, cases_lt, true≢false, get_or-set_other, length-set, slice_get-get_or, Network, PairSet, present, linked, neighbours, edge, edge_count, is_end, without_edge, without_node, UnknownNode, leave_fault, unlink_fault, has, row_at, edges_of, network_of, IsRows, IsStore, IsPlaceOf, contains-without, nat_tests}
use Rattle.std.specs.FinMap as map
use Rattle.graph_store.proofs.PairOrder.{same_pair, has-remove, count-remove, same_pairs}
use Rattle.graph_store.proofs.Pairs.{has-edges_of}
use Rattle.graph_store.proofs.AscendingLists.{there_at_place}
use Rattle.graph_store.proofs.Store.{neighbours_by}
use Rattle.graph_store.proofs.Faults.{linked_at_place, unlink_fault_is, some_edge}

-- a pair that is left out anyhow may be missing
left_out : (e s h : Bool) → (s ≡ true → e ≡ true) → (not e && (not s && h)) ≡ (not e && h)
left_out e s h so = grind arith

-- a name is an end of the edges at it
ends_at : (v w a b : ℕ) → same_pair (a, b) (edge v w) ≡ true → is_end v (a, b) ≡ true
ends_at v w a b h = grind (arith, cases_lt, nat_tests)

-- removing an edge at v before v leaves the same network as removing v with its edges
pub without_edge_at : (net : Network) (v w : ℕ) → without_node (without_edge net v w) v ≡ without_node net v
without_edge_at net v w =
    ap (λ (s : PairSet). let gone : Network = record { size = net.size; here = set net.here v false; edges = s } in gone)
    (same_pairs _ _ (λ a b.
    contains-without (map.remove net.edges (edge v w)) v (a, b)
    ∙ ap (λ t. not (is_end v (a, b)) && t) (has-remove net.edges (edge v w) (a, b))
    ∙ left_out (is_end v (a, b)) (same_pair (a, b) (edge v w)) (map.contains_key net.edges (a, b)) (ends_at v w a b)
    ∙ sym (contains-without net.edges v (a, b))))

-- an edge less to count
pub edge_falls : (net : Network) (v w : ℕ) → linked net v w ≡ true → edge_count (without_edge net v w) < edge_count net
edge_falls net v w there =
    let less : edge_count (without_edge net v w) ≡ edge_count net - 1 = count-remove net.edges (edge v w) there in
    let some = some_edge net v w there in
    omega (arith, less, some)

-- an edge that may be taken out is there
pub may_unlink : (net : Network) (a b : ℕ) → unlink_fault net a b ≡ None → linked net a b ≡ true
may_unlink net a b free = grind arith

-- a node may leave
pub may_leave : (net : Network) (v : ℕ) → present net v ≡ true → leave_fault net v ≡ None
may_leave net v here = ap (λ t. cond t None (Some UnknownNode)) here

-- the edge to the neighbour at a place may be taken out
unlinks_at : (size : ℕ) (roll : List Bool) (rows : List (List ℕ)) (net : Network) (v w i : ℕ) (row : List ℕ) → network_of size roll rows ≡ net → IsRows size roll rows → present net v ≡ true → row ≡ row_at rows v → IsPlaceOf row w i → unlink_fault net v w ≡ None
unlinks_at size roll rows net v w i row seen good here is place =
    let in_row : has (row_at rows v) w ≡ true = ap (λ l. has l w) (sym is) ∙ there_at_place row w i place in
    unlink_fault_is net v w true here
    (ap (λ n. present n w) (sym seen) ∙ good.within v w in_row)
    (ne_eqb v w (λ e. true≢false (sym in_row ∙ ap (has (row_at rows v)) (sym e) ∙ good.apart v)))
    (linked_at_place size roll rows net v w i row seen good is place)

-- the last neighbour, if there is one
pub last_of : (size : ℕ) (roll : List Bool) (rows : List (List ℕ)) (net : Network) (v : ℕ) (row : List ℕ) (o : Option ℕ) → network_of size roll rows ≡ net → IsRows size roll rows → present net v ≡ true → row ≡ row_at rows v → o ≡ slice_get row (length row - 1) → MatchOption o (neighbours net v ≡ []) (λ w. unlink_fault net v w ≡ None)
last_of size roll rows net v [] o seen good here is found =
    subst (λ r. MatchOption r (neighbours net v ≡ []) (λ w. unlink_fault net v w ≡ None)) (sym found)
    (sym (is ∙ neighbours_by size roll rows net v seen good))
last_of size roll rows net v (x ∷ xs) o seen good here is found =
    let i : ℕ = length (x ∷ xs) - 1 in
    let inside : i < length (x ∷ xs) = omega arith in
    subst (λ r. MatchOption r (neighbours net v ≡ []) (λ w. unlink_fault net v w ≡ None)) (sym (found ∙ slice_get-get_or (x ∷ xs) i 0 inside))
    (unlinks_at size roll rows net v (get_or (x ∷ xs) i 0) i (x ∷ xs) seen good here is (inside, refl))

-- no row has a name whose own row is empty
nobody_has : (size : ℕ) (roll : List Bool) (rows : List (List ℕ)) (v w : ℕ) → IsRows size roll rows → row_at rows v ≡ [] → has (row_at rows w) v ≡ false
nobody_has size roll rows v w good alone = good.mutual_in w v ∙ ap (λ row. has row w) alone

-- the rows of a store stay those of a store if a name without neighbours leaves the roll
pub parted_store : (size : ℕ) (roll : List Bool) (edges : ℕ) (rows : List (List ℕ)) (v : ℕ) → IsStore size roll edges rows → 1 ≤ v → row_at rows v ≡ [] → IsStore size (set roll v false) edges rows
parted_store size roll edges rows v store low alone =
    let good = store.is_rows in
    record {
      is_rows = record {
        places = good.places;
        roll_len = length-set roll v false ∙ good.roll_len;
        nobody = get_or-set_other roll v 0 false false (λ e. omega (arith, e, low)) ∙ good.nobody;
        within = λ x w h.
            ap (λ t. leb 1 w && (leb w size && t)) (get_or-set_other roll v w false false (λ e. true≢false (sym h ∙ ap (has (row_at rows x)) e ∙ nobody_has size roll rows v x good alone)))
            ∙ good.within x w h;
        mutual_in = good.mutual_in;
        apart = good.apart;
        rising = good.rising;
      };
      few_nodes = store.few_nodes;
      counted = store.counted;
      few_edges = store.few_edges;
    }

-- a pair is as it was, since none of those left out is there
as_it_was : (e h : Bool) → (e ≡ true → h ≡ false) → h ≡ (not e && h)
as_it_was e h so = grind arith

-- a name whose row is empty is no end of an edge
no_end : (size : ℕ) (roll : List Bool) (rows : List (List ℕ)) (v a b : ℕ) → IsRows size roll rows → row_at rows v ≡ [] → is_end v (a, b) ≡ true → map.contains_key (edges_of rows) (a, b) ≡ false
no_end size roll rows v a b good alone h =
    grind (arith, eqb-true, has-edges_of, nobody_has, or_cases)

-- and the network is the one without the node
pub parted_network : (size : ℕ) (roll : List Bool) (rows : List (List ℕ)) (v : ℕ) → IsRows size roll rows → row_at rows v ≡ [] → network_of size (set roll v false) rows ≡ without_node (network_of size roll rows) v
parted_network size roll rows v good alone =
    ap (λ (s : PairSet). let gone : Network = record { size = size; here = set roll v false; edges = s } in gone)
    (same_pairs _ _ (λ a b.
    as_it_was (is_end v (a, b)) (map.contains_key (edges_of rows) (a, b)) (no_end size roll rows v a b good alone)
    ∙ sym (contains-without (edges_of rows) v (a, b))))
