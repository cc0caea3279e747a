-- Which edges and nodes a network has after an edge or a node is added or removed.
use Rattle.machine_laws.proofs.ChargePrelude.Imports.{◌≡◌, ℕ, ◌≤◌, nat_le, leb-true, min, max, Bool, false, not, ◌&&◌, ◌||◌, is_some, IsTrue, sym, ap, ◌∙◌, ◌⊎◌, arith, set, nat_cmp, eq_by_cmp, IsTotalOrder, nat_cmp_total, on_total, then_total, CmpEqualImpliesEq, exact_pairs, exact_unsigned, tells_apart, length-map-range_with_len, get_or-map-range_with_len, get_or-set_same, get_or-set_other, length-set, cases_Bool, cases_eq, eqb-true, eq-eqb, or_left, or_cases, or_right, and_parts, and_from, true≢false, cases_lt, Network, PairSet, IsNetwork, pair_cmp, edge, linked, present, is_end, edgeless_with, with_edge, without_edge, with_node, without_node}
use Rattle.std.specs.FinMap as map
use Rattle.machine_laws.proofs.Writes.{cleared}

pub pair_total : IsTotalOrder pair_cmp
pair_total = then_total (on_total (λ (p : ℕ × ℕ). p.0) nat_cmp_total) (on_total (λ (p : ℕ × ℕ). p.1) nat_cmp_total)

-- pairs that compare as equal are equal
pub pair_exact : CmpEqualImpliesEq pair_cmp
pair_exact = exact_pairs nat_cmp nat_cmp exact_unsigned exact_unsigned

pub contains-insert : (m : PairSet) (k q : ℕ × ℕ) → map.contains_key (map.insert m k tt) q ≡ (eq_by_cmp pair_cmp q k || map.contains_key m q)
contains-insert m k q = grind (arith, map.get-insert pair_total m k tt q)

pub contains-remove : (m : PairSet) (k q : ℕ × ℕ) → map.contains_key (map.remove m k) q ≡ (not (eq_by_cmp pair_cmp q k) && map.contains_key m q)
contains-remove m k q = grind (arith, map.get-remove pair_total m k q)

pub contains-empty : (q : ℕ × ℕ) → map.contains_key (map.empty {K = ℕ × ℕ} {X = Unit {0}} {R = pair_cmp}) q ≡ false
contains-empty q = ap is_some (map.get-empty pair_cmp q)

-- each pair of the larger set is the new pair or was in the set before
pub inserted_cases : (m : PairSet) (k q : ℕ × ℕ) → IsTrue (map.contains_key (map.insert m k tt) q) → (q ≡ k) ⊎ IsTrue (map.contains_key m q)
inserted_cases m k q h = grind (arith, tells_apart, or_cases, contains-insert)

pub still_inserted : (m : PairSet) (k q : ℕ × ℕ) → IsTrue (map.contains_key m q) → IsTrue (map.contains_key (map.insert m k tt) q)
still_inserted m k q h = contains-insert m k q ∙ or_right (eq_by_cmp pair_cmp q k) (map.contains_key m q) h

pub removed_was : (m : PairSet) (k q : ℕ × ℕ) → IsTrue (map.contains_key (map.remove m k) q) → IsTrue (map.contains_key m q)
removed_was m k q h = (and_parts (not (eq_by_cmp pair_cmp q k)) (map.contains_key m q) (sym (contains-remove m k q) ∙ h)).1

-- a pair that is not the removed one is still there
pub still_removed : (m : PairSet) (k q : ℕ × ℕ) → (q ≡ k → ⊥) → IsTrue (map.contains_key m q) → IsTrue (map.contains_key (map.remove m k) q)
still_removed m k q apart h = grind (arith, contains-remove, and_from, tells_apart, cases_Bool)

-- an edge is the same from either end
pub linked_comm : (net : Network) (a b : ℕ) → linked net a b ≡ linked net b a
linked_comm net a b = grind arith

-- both ends of an edge are nodes
pub linked_present : (net : Network) (a b : ℕ) → IsNetwork net → IsTrue (linked net a b) → IsTrue (present net b)
linked_present net a b good h = grind (arith, cases_lt)

-- equal edges join the same two ends
pub edge_ends : (a b c d : ℕ) → edge c d ≡ edge a b → ((c ≡ a) × (d ≡ b)) ⊎ ((c ≡ b) × (d ≡ a))
edge_ends a b c d e = grind (arith, min, max, cases_lt)

pub edgeless_is_network : (size count : ℕ) → IsNetwork (edgeless_with size count)
edgeless_is_network size count = grind (arith, length-map-range_with_len, nat_le, get_or-map-range_with_len, true≢false, contains-empty)

pub with_edge_is_network : (net : Network) (a b : ℕ) → IsNetwork net → IsTrue (present net a) → IsTrue (present net b) → (a ≡ b → ⊥) → IsNetwork (with_edge net a b)
with_edge_is_network net a b good has_a has_b apart = grind (arith, min, cases_lt, max, inserted_cases)

pub without_edge_is_network : (net : Network) (a b : ℕ) → IsNetwork net → IsNetwork (without_edge net a b)
without_edge_is_network net a b good = grind (arith, removed_was)

-- the test of a name after a change of another's entry
pub present_other : (net : Network) (v : ℕ) (b : Bool) (w : ℕ) → (w ≡ v → ⊥) → present (record net { here = set net.here v b }) w ≡ present net w
present_other net v b w apart = ap (λ c. nat_le 1 w && (nat_le w net.size && c)) (get_or-set_other net.here v w b false apart)

-- a present node is present after another joins
pub still_present : (net : Network) (v w : ℕ) → IsNetwork net → IsTrue (present net w) → IsTrue (present (with_node net v) w)
still_present net v w good has = grind (arith, and_parts, leb-true, and_from, get_or-set_same, present_other, cases_eq)

pub with_node_is_network : (net : Network) (v : ℕ) → 1 ≤ v → IsNetwork net → IsNetwork (with_node net v)
with_node_is_network net v low good = grind (arith, length-set, get_or-set_other, still_present)

pub contains-without : (m : PairSet) (v : ℕ) (q : ℕ × ℕ) → map.contains_key (map.retain_keys m (λ e. not (is_end v e))) q ≡ (not (is_end v q) && map.contains_key m q)
contains-without m v q = grind (arith, map.get-retain_keys m (λ e. not (is_end v e)) q (λ x same. ap (λ e. not (is_end v e)) (sym (pair_exact q x same))))

-- a pair that is left was there, and neither end is the name
pub left_was : (m : PairSet) (v : ℕ) (a b : ℕ) → IsTrue (map.contains_key (map.retain_keys m (λ e. not (is_end v e))) (a, b)) → (a ≡ v → ⊥) × (b ≡ v → ⊥) × IsTrue (map.contains_key m (a, b))
left_was m v a b h = grind (arith, and_parts, contains-without, true≢false, or_left, eq-eqb, or_right)

pub without_node_is_network : (net : Network) (v : ℕ) → IsNetwork net → IsNetwork (without_node net v)
without_node_is_network net v good = grind (arith, length-set, cleared, get_or-set_other, cases_eq, left_was, present_other)

-- an edge of two other nodes is left
pub still_without : (net : Network) (v a b : ℕ) → (a ≡ v → ⊥) → (b ≡ v → ⊥) → IsTrue (linked net a b) → IsTrue (linked (without_node net v) a b)
still_without net v a b apart_a apart_b h = grind (arith, contains-without, and_from, cases_lt, eqb-true, cases_Bool)
