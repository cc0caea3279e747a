-- How many edges a node has, and how many edges have an end at one of two nodes.
use Rattle.machine_laws.proofs.ChargePrelude.{◌≡◌, ℕ, ◌+◌, ◌≤◌, ◌<◌, min, max, edge, true, false, not, ◌&&◌, ◌||◌, count_by, nat_eq, IsTrue, refl, sym, ap, ◌∙◌, arith, and_from, or_left, or_right, eq-eqb, ne_eqb, Network, IsNetwork, is_end, linked, neighbours, edge_list, degree}
use Rattle.machine_laws.proofs.ListCounts.{count_split, count_either, none_count, one_count, at_most_one, count_all, count_agree}
use Rattle.machine_laws.proofs.Members.{in_edges, edges_contain}
use Rattle.machine_laws.proofs.EdgesByNodes.{edges_without_repeats}
use Rattle.machine_laws.proofs.EdgesByEnds.{one_node_changes}

-- ---- edges at nodes

ends_agree : (v a b : ℕ) → (nat_eq a v || nat_eq b v) ≡ (nat_eq b v || nat_eq a v)
ends_agree v a b = grind arith

-- the edges with an end at a node are as many as its neighbours
pub edges_at : (net : Network) → IsNetwork net → (v : ℕ) → count_by (is_end v) (edge_list net) ≡ degree net v
edges_at net good v =
    let whole = one_node_changes net good (λ a b. nat_eq a v || nat_eq b v) (λ a b. false) v (ends_agree v) (λ a b. refl) (λ a b not_a not_b. sym (ap (λ t. t || nat_eq b v) (ne_eqb a v not_a) ∙ ne_eqb b v not_b)) in
    let no_edges = none_count (λ (e : ℕ × ℕ). false) (edge_list net) (λ e there. refl) in
    let no_names = none_count (λ (w : ℕ). false) (neighbours net v) (λ w there. refl) in
    let each = count_agree (λ w. nat_eq v v || nat_eq w v) (λ w. true) (λ w. or_left (nat_eq v v) (nat_eq w v) (eq-eqb v v refl)) (neighbours net v) in
    let all = count_all (neighbours net v) in
    omega (arith, whole, no_edges, no_names, each, all)

-- the edge between two nodes has an end at each
joins : (net : Network) (v w : ℕ) → IsTrue (linked net v w) → 1 ≤ count_by (λ e. is_end v e && is_end w e) (edge_list net)
joins net v w near = grind (arith, one_count, in_edges, and_from, or_left, eq-eqb, or_right)

-- Two nodes together have as many edges as their degrees sum to, less one if they are linked.
pub at_either : (net : Network) → IsNetwork net → (v w : ℕ) → count_by (λ e. is_end v e || is_end w e) (edge_list net) + count_by (λ e. is_end v e && is_end w e) (edge_list net) ≡ degree net v + degree net w
at_either net good v w =
    omega (arith, count_either (is_end v) (is_end w) (edge_list net), edges_at net good v, edges_at net good w)

pub at_linked : (net : Network) → IsNetwork net → (v w : ℕ) → IsTrue (linked net v w) → count_by (λ e. is_end v e || is_end w e) (edge_list net) + 1 ≤ degree net v + degree net w
at_linked net good v w near = grind (arith, at_either, joins)

-- a node's edges but one
pub at_one : (net : Network) → IsNetwork net → (v w : ℕ) → IsTrue (linked net v w) → count_by (λ e. is_end v e && not (is_end w e)) (edge_list net) + 1 ≤ degree net v
at_one net good v w near =
    omega (arith, count_split (is_end v) (is_end w) (edge_list net), edges_at net good v, joins net v w near)

-- an edge with two given ends is one
pub one_between : (net : Network) → IsNetwork net → (v u : ℕ) → (v ≡ u → ⊥) → count_by (λ e. is_end v e && is_end u e) (edge_list net) ≤ 1
one_between net good v u apart = at_most_one (λ e. is_end v e && is_end u e) (edge v u) (edge_list net) (edges_without_repeats net) (λ e there h. is v u e.0 e.1 apart (good.low_first e.0 e.1 (edges_contain net e there)) h)
  where
    is : (v u a b : ℕ) → (v ≡ u → ⊥) → a < b → (is_end v (a, b) && is_end u (a, b)) ≡ true → ◌≡◌ {A = ℕ × ℕ} (a, b) (edge v u)
    is v u a b apart up h = grind (arith, min, max)
