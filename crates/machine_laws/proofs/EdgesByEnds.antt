-- Counts of edges that pass a test, if a single node changes.
use Rattle.machine_laws.proofs.ChargePrelude.{ap, ◌≡◌, ℕ, ◌+◌, ◌<◌, Bool, cond, not, ◌&&◌, count_by, nat_eq, IsTrue, refl, arith, Network, IsNetwork, names, present, neighbours, edge_list}
use Rattle.machine_laws.proofs.ListCounts.{count_agree, count_before, sum_agree, sum_agree_in}
use Rattle.machine_laws.proofs.Members.{edges_contain}
use Rattle.machine_laws.proofs.EdgesByNodes.{has, at_node, at_upper, at_both}

-- ---- a change at one node

-- whether a pair has the node at neither end and passes a test
abbrev elsewhere : ℕ → (ℕ → ℕ → Bool) → ℕ × ℕ → Bool
elsewhere v p e = not (nat_eq e.1 v) && (not (nat_eq e.0 v) && p e.0 e.1)

-- Edges that pass a symmetric test pass it at a node's neighbours or away from the node.
around : (net : Network) → IsNetwork net → (p : ℕ → ℕ → Bool) (v : ℕ) → ((a b : ℕ) → p a b ≡ p b a) → count_by (λ e. p e.0 e.1) (edge_list net) ≡ count_by (p v) (neighbours net v) + count_by (elsewhere v p) (edge_list net)
around net good p v symmetric =
    let leaving = count_before (λ e. nat_eq e.0 v) (λ e. p e.0 e.1) (edge_list net) in
    let entering = count_before (λ e. nat_eq e.1 v) (λ e. not (nat_eq e.0 v) && p e.0 e.1) (edge_list net) in
    let turn = sum_agree (λ w. cond (has net w v && (not (nat_eq w v) && p w v)) 1 0) (λ w. cond (has net w v && p v w) 1 0) (λ w. from_below (has net w v) (p w v) (p v w) w (good.low_first w v) (symmetric w v)) (names net) in
    omega (arith, leaving, entering, at_node net good (λ e. p e.0 e.1) v, at_upper net good (λ e. not (nat_eq e.0 v) && p e.0 e.1) v, turn, at_both net good (p v) v)
  where
    from_below : (h q r : Bool) (w : ℕ) → (IsTrue h → w < v) → q ≡ r → ◌≡◌ {A = ℕ} (cond (h && (not (nat_eq w v) && q)) 1 0) (cond (h && r) 1 0)
    from_below h q r w up same = grind arith

-- If two symmetric tests differ only at one node, their counts differ only at its neighbours.
pub one_node_changes : (net : Network) → IsNetwork net → (p q : ℕ → ℕ → Bool) (v : ℕ) → ((a b : ℕ) → p a b ≡ p b a) → ((a b : ℕ) → q a b ≡ q b a) → ((a b : ℕ) → (a ≡ v → ⊥) → (b ≡ v → ⊥) → q a b ≡ p a b) → count_by (λ e. q e.0 e.1) (edge_list net) + count_by (p v) (neighbours net v) ≡ count_by (λ e. p e.0 e.1) (edge_list net) + count_by (q v) (neighbours net v)
one_node_changes net good p q v p_symmetric q_symmetric same =
    let before = around net good p v p_symmetric in
    let after = around net good q v q_symmetric in
    let rest = count_agree (elsewhere v q) (elsewhere v p) (λ e. go e.0 e.1 (nat_eq e.0 v) (nat_eq e.1 v) refl refl) (edge_list net) in
    omega (arith, before, after, rest)
  where
    go : (a b : ℕ) (s t : Bool) → nat_eq a v ≡ s → nat_eq b v ≡ t → (not t && (not s && q a b)) ≡ (not t && (not s && p a b))
    go a b s t e f = grind arith

-- ---- tests that agree on what is there

-- Tests that agree on nodes count the same edges.
pub edges_agree : (net : Network) → IsNetwork net → (p q : ℕ × ℕ → Bool) → ((a b : ℕ) → IsTrue (present net a) → IsTrue (present net b) → p (a, b) ≡ q (a, b)) → count_by p (edge_list net) ≡ count_by q (edge_list net)
edges_agree net good p q same =
    sum_agree_in _ _ (edge_list net) (λ e there. let at = edges_contain net e there in ap (λ b. cond b 1 0) (same e.0 e.1 (good.low_present e.0 e.1 at) (good.high_present e.0 e.1 at)))
