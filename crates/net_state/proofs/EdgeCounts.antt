-- How many edges are open, as an edge comes or goes and as a name turns.
use Rattle.net_state.proofs.Prelude.{◌≡◌, ℕ, ◌+◌, ◌-◌, ◌<◌, ◌≤◌, min, max, Bool, true, false, cond, ◌&&◌, List, length, count_by, replicate, set, sym, ap, ap₂, ◌∙◌, ⊎_elim, arith, from_bool, range_with_len, length-range_with_len, length-filter, count_by-le-length, false_from_ne_true, cases_lt, cases_eq, get_or-set_other, get_or-set_same, everywhere, Network, IsNetwork, PairSet, State, StateView, edge, edge_count, names, neighbours, linked, present, linked_apart, count_agree, none_count, zeros, count_filter, one_node_changes, count_with, count_without, count_all_few, EdgeStance, Shut, OpenEdges, are_open, end_at, open_among, open_edges, open_to, AreAllShut, CountsOpenEdges, IsChange, Linked, Unlinked, may_link}
use Rattle.net_state.proofs.ChangedRounds.{size_kept}
use Rattle.std.specs.FinMap as map

-- an edge is as open from either end
open_either_way : (a b : EdgeStance) → are_open a b ≡ are_open b a
open_either_way a b = grind arith

-- so it does not matter which of its ends is the lower one
open_edge : (ends : List EdgeStance) (a b : ℕ) → are_open (end_at ends (min a b)) (end_at ends (max a b)) ≡ are_open (end_at ends a) (end_at ends b)
open_edge ends a b =
    ⊎_elim
    (λ (lt : a < b). ap₂ (λ x y. are_open (end_at ends x) (end_at ends y)) (let low : min a b ≡ a = omega arith in low) (let high : max a b ≡ b = omega arith in high))
    (λ (le : b ≤ a). ap₂ (λ x y. are_open (end_at ends x) (end_at ends y)) (let low : min a b ≡ b = omega arith in low) (let high : max a b ≡ a = omega arith in high) ∙ open_either_way (end_at ends b) (end_at ends a))
    (cases_lt a b)

bool_number : (b : Bool) → from_bool b ≡ cond b 1 0
bool_number b = grind arith

one_few : (b : Bool) → cond b 1 0 ≤ 1
one_few b = grind arith

-- an edge's one or zero, as it is read
pub open_number : (ends read : List EdgeStance) (a b number : ℕ) (opens : Bool) → number ≡ from_bool opens → opens ≡ are_open (end_at read a) (end_at read b) → read ≡ ends → number ≡ cond (are_open (end_at ends a) (end_at ends b)) 1 0
open_number ends read a b number opens is tells all = is ∙ bool_number opens ∙ ap (λ t. cond t 1 0) (tells ∙ ap (λ l. are_open (end_at l a) (end_at l b)) all)

-- no edge is open if each stance is `Shut`
pub none_open : (net : Network) (ends : List EdgeStance) → AreAllShut ends → open_edges net ends ≡ 0
none_open net ends shut =
    none_count (λ e. are_open (end_at ends e.0) (end_at ends e.1)) (map.keys net.edges) (λ e _. ap₂ are_open (shut e.0) (shut e.1))

-- each of a list of shut stances is `Shut`
pub all_shut : (places : ℕ) → AreAllShut (replicate places Shut)
all_shut places v = everywhere places v Shut

-- no more edges are open than there are
pub few_open : (net : Network) (ends : List EdgeStance) → open_edges net ends ≤ edge_count net
few_open net ends = count_all_few (λ e. are_open (end_at ends e.0) (end_at ends e.1)) net.edges

-- a node has no more neighbours than there are names
pub few_neighbours : (net : Network) (v : ℕ) → length (neighbours net v) ≤ net.size
few_neighbours net v =
    let count = length-filter (linked net v) (names net) in
    let few = count_by-le-length (linked net v) (names net) in
    let nodes = length-filter (present net) (range_with_len 1 net.size) in
    let here = count_by-le-length (present net) (range_with_len 1 net.size) in
    let all = length-range_with_len 1 net.size in
    omega (arith, count, few, nodes, here, all)

-- an edge comes
open_linked : (ends : List EdgeStance) (edges edges' : PairSet) (a b count : ℕ) → map.contains_key edges (edge a b) ≡ false → edges' ≡ map.insert edges (edge a b) tt → open_among ends edges ≡ count → open_among ends edges' ≡ count + cond (are_open (end_at ends a) (end_at ends b)) 1 0
open_linked ends edges edges' a b count absent is counted =
    ap (open_among ends) is ∙ count_with (λ e. are_open (end_at ends e.0) (end_at ends e.1)) edges (edge a b) absent
    ∙ ap₂ (λ n t. n + cond t 1 0) counted (open_edge ends a b)

-- an edge goes
open_unlinked : (ends : List EdgeStance) (edges edges' : PairSet) (a b count : ℕ) → map.contains_key edges (edge a b) ≡ true → edges' ≡ map.remove edges (edge a b) → open_among ends edges ≡ count → count ≡ open_among ends edges' + cond (are_open (end_at ends a) (end_at ends b)) 1 0
open_unlinked ends edges edges' a b count there is counted =
    sym counted ∙ count_without (λ e. are_open (end_at ends e.0) (end_at ends e.1)) edges (edge a b) there
    ∙ ap₂ (λ (s : PairSet) t. open_among ends s + cond t 1 0) (sym is) (open_edge ends a b)

-- the count after an edge came
pub counts_linked : (before now : StateView) (a b one : ℕ) (it : OpenEdges) → IsChange before (Linked a b) now → CountsOpenEdges before.state.network it → one ≡ cond (are_open (end_at it.stances.items a) (end_at it.stances.items b)) 1 0 → CountsOpenEdges now.state.network (record it { count = it.count + one })
counts_linked before now a b one it change counts is =
    let net = before.state.network in
    let free = may_link net a b change.due in
    let most = few_open net it.stances.items in
    let last = one_few (are_open (end_at it.stances.items a) (end_at it.stances.items b)) in
    record {
      places = counts.places ∙ ap (λ n. n + 1) (sym (size_kept before now (Linked a b) change));
      counted = open_linked it.stances.items net.edges now.state.network.edges a b it.count free.fresh (ap (λ (s : State). s.network.edges) change.made) counts.counted ∙ ap (λ n. it.count + n) (sym is);
      few = omega (arith, most, counts.counted, free.few, is, last);
      shut = counts.shut;
    }

-- and after an edge went
pub counts_unlinked : (before now : StateView) (a b one : ℕ) (it : OpenEdges) → IsChange before (Unlinked a b) now → CountsOpenEdges before.state.network it → one ≡ cond (are_open (end_at it.stances.items a) (end_at it.stances.items b)) 1 0 → (one ≤ it.count) × CountsOpenEdges now.state.network (record it { count = it.count - one })
counts_unlinked before now a b one it change counts is =
    let less = open_unlinked it.stances.items before.state.network.edges now.state.network.edges a b it.count change.due.0 (ap (λ (s : State). s.network.edges) change.made) counts.counted in (
      omega (arith, less, is),
      record {
        places = counts.places ∙ ap (λ n. n + 1) (sym (size_kept before now (Unlinked a b) change));
        counted = omega (arith, less, is);
        few = omega (arith, counts.few);
        shut = counts.shut;
      },
    )

-- a name's own stance does not count among its neighbours
beside : (net : Network) → IsNetwork net → (p q : ℕ → Bool) (v : ℕ) → ((w : ℕ) → (w ≡ v → ⊥) → p w ≡ q w) → count_by p (neighbours net v) ≡ count_by q (neighbours net v)
beside net good p q v same =
    count_filter p (linked net v) (names net)
    ∙ count_agree (λ w. linked net v w && p w) (λ w. linked net v w && q w) one (names net)
    ∙ sym (count_filter q (linked net v) (names net))
  where
    one : (w : ℕ) → (linked net v w && p w) ≡ (linked net v w && q w)
    one w =
        ⊎_elim
        (λ (e : w ≡ v). let alone = false_from_ne_true (linked net v w) (λ near. linked_apart net v w good near (sym e)) in ap (λ t. t && p w) alone ∙ sym (ap (λ t. t && q w) alone))
        (λ apart. ap (λ t. linked net v w && t) (same w apart))
        (cases_eq w v)

-- a name turns
pub open_turned : (net : Network) → IsNetwork net → (ends : List EdgeStance) (v : ℕ) (e : EdgeStance) → v < length ends → open_edges net (set ends v e) + open_to ends (end_at ends v) (neighbours net v) ≡ open_edges net ends + open_to ends e (neighbours net v)
open_turned net good ends v e inside =
    let new = set ends v e in
    let other : (w : ℕ) → (w ≡ v → ⊥) → end_at new w ≡ end_at ends w = λ w apart. get_or-set_other ends v w e Shut apart in
    let here : end_at new v ≡ e = get_or-set_same ends v e Shut inside in
    let all = one_node_changes net good (λ a b. are_open (end_at ends a) (end_at ends b)) (λ a b. are_open (end_at new a) (end_at new b)) v (λ a b. open_either_way (end_at ends a) (end_at ends b)) (λ a b. open_either_way (end_at new a) (end_at new b)) (λ a b off_a off_b. ap₂ are_open (other a off_a) (other b off_b)) in
    let after = beside net good (λ w. are_open (end_at new v) (end_at new w)) (λ w. are_open e (end_at ends w)) v (λ w apart. ap₂ are_open here (other w apart)) in
    omega (arith, all, after)

-- the open edges at a name are among all
pub open_at_few : (net : Network) → IsNetwork net → (ends : List EdgeStance) (v : ℕ) → v < length ends → open_to ends (end_at ends v) (neighbours net v) ≤ open_edges net ends
open_at_few net good ends v inside =
    let turns = open_turned net good ends v Shut inside in
    let none = zeros (neighbours net v) in
    omega (arith, turns, none)
