-- The lines of every state are in order.
use Rattle.net_state.proofs.Prelude.{◌≡◌, ℕ, zero, suc, ◌+◌, ◌<◌, ◌≤◌, Bool, true, false, cond, List, ◌∷◌, map, filter, IsTrue, nat_eq, refl, sym, ap, ◌∙◌, subst, arith, T, range_with_len, list_any, tied_itself, eq_by_cmp, nat_cmp, ordering_then, is_eq, is_lt, Ordering, Less, Equal, Greater, is_sorted, below_all, and_parts, true≢false, lt-ltb, or_left, pair_total, present_range, pair_cmp, present, edge_list, State, IsState, node_record_at, node_records, NodeRecord, NamesRise, EdgesAscend, NoStateHas, []}
use Rattle.std.specs.FinMap as finmap

ranged_rise : (s : State) (n a last : ℕ) → last < a → NamesRise last (map (node_record_at s) (filter (present s.network) (range_with_len a n)))
ranged_rise s zero a last below = tt
ranged_rise s (suc n) a last below =
    go (present s.network a) (ranged_rise s n (a + 1) a (omega arith)) (ranged_rise s n (a + 1) last (omega (arith, below)))
  where
    rest : List ℕ
    rest = filter (present s.network) (range_with_len (a + 1) n)

    go : (b : Bool) → NamesRise a (map (node_record_at s) rest) → NamesRise last (map (node_record_at s) rest) → NamesRise last (map (node_record_at s) (cond b (a ∷ rest) rest))
    go true more less = (below, more)
    go false more less = less

pub records_rise : (s : State) → NamesRise 0 (node_records s)
records_rise s = ranged_rise s s.network.size 1 0 (omega arith)

holds : (b : Bool) → T b → IsTrue b
holds true h = refl
holds false h = absurd h

less_is : (o : Ordering) → IsTrue (is_lt o) → o ≡ Less
less_is Less h = refl
less_is Equal h = absurd (true≢false (sym h))
less_is Greater h = absurd (true≢false (sym h))

keys_ascend : (last : ℕ × ℕ) (es : List ((ℕ × ℕ) × Unit {0})) → IsTrue (below_all pair_cmp last es) → IsTrue (is_sorted pair_cmp es) → EdgesAscend last (map (λ e. e.0) es)
keys_ascend last [] below sorted = tt
keys_ascend last (e ∷ es) below sorted =
    let first = and_parts (is_lt (pair_cmp last e.0)) (below_all pair_cmp last es) below in
    let more = and_parts (below_all pair_cmp e.0 es) (is_sorted pair_cmp es) sorted in
    (less_is (pair_cmp last e.0) first.0, keys_ascend e.0 es more.0 more.1)

first_ascends : (es : List ((ℕ × ℕ) × Unit {0})) → ((e : ℕ × ℕ) → list_any (eq_by_cmp pair_cmp e) (map (λ x. x.0) es) ≡ true → 1 ≤ e.0) → IsTrue (is_sorted pair_cmp es) → EdgesAscend (0, 0) (map (λ e. e.0) es)
first_ascends [] named sorted = tt
first_ascends (e ∷ es) named sorted =
    let more = and_parts (below_all pair_cmp e.0 es) (is_sorted pair_cmp es) sorted in
    let low : 1 ≤ e.0.0 = named e.0 (or_left _ _ (ap is_eq (tied_itself pair_total e.0))) in
    (ap (λ b. ordering_then (cond b Less (cond (nat_eq 0 e.0.0) Equal Greater)) (nat_cmp 0 e.0.1)) (lt-ltb 0 e.0.0 (omega (arith, low))), keys_ascend e.0 es more.0 more.1)

pub list_ascends : (s : State) → IsState s → EdgesAscend (0, 0) (edge_list s.network)
list_ascends s good =
    first_ascends (finmap.entries s.network.edges)
    (λ e there. (present_range s.network e.0 (good.is_network.low_present e.0 e.1 (finmap.contains_key-keys s.network.edges e ∙ there))).0)
    (holds (is_sorted pair_cmp (finmap.entries s.network.edges)) (finmap.entries_sorted s.network.edges))

-- lines out of order are those of no state
pub unordered_names : (size : ℕ) (nodes : List NodeRecord) (edges : List (ℕ × ℕ)) → (NamesRise 0 nodes → ⊥) → NoStateHas size nodes edges
unordered_names size nodes edges wrong s good lines = wrong (subst (NamesRise 0) lines.nodes_are (records_rise s))

pub unordered_edges : (size : ℕ) (nodes : List NodeRecord) (edges : List (ℕ × ℕ)) → (EdgesAscend (0, 0) edges → ⊥) → NoStateHas size nodes edges
unordered_edges size nodes edges wrong s good lines = wrong (subst (EdgesAscend (0, 0)) lines.edges_are (list_ascends s good))
