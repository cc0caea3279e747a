-- What is in the lists of a network's names and edges.
use Rattle.machine_laws.proofs.ChargePrelude.{AllByRecursion, IsDistinct, IsDistinct-from_sorted, IsDistinct-head, IsDistinct-tail, nat_cmp, IsStrictlyIncreasing, sorted_from_strictly_increasing, ◌≡◌, ℕ, zero, suc, ◌+◌, ◌<◌, ◌≤◌, min, max, Bool, true, filter, refl, List, [], ◌∷◌, length, IsTrue, sym, ◌∙◌, subst, inl, inr, arith, range_with_len, list_any, eq_by_cmp, cases_eq, cases_lt, tells_apart, length-map, eq_by_cmp_equiv, Network, pair_cmp, edge, names, present, edge_list, node_count, edge_count, present_range}
use Rattle.std.specs.FinMap as map
use Rattle.machine_laws.proofs.LeastAnswers.{names_increasing}
use Rattle.machine_laws.proofs.ListCounts.{IsIn, IsWithoutRepeats}

in_range : (a n v : ℕ) → a ≤ v → v < a + n → IsIn v (range_with_len a n)
in_range a zero v low high = absurd (omega arith)
in_range a (suc n) v low high = grind (arith, in_range (a + 1) n v, cases_eq a v)

pub range_bounds : (a n v : ℕ) → IsIn v (range_with_len a n) → (a ≤ v) × (v < a + n)
range_bounds a zero v h = absurd h
range_bounds a (suc n) v at = grind (arith, range_bounds (a + 1) n v)

-- what a filter keeps passes and was there
pub in_kept : (p : ℕ → Bool) (v : ℕ) (xs : List ℕ) → IsTrue (p v) → IsIn v xs → IsIn v (filter p xs)
in_kept p v [] passes at = absurd at
in_kept p v (x ∷ xs) passes at = grind (arith, in_kept p v xs passes)

kept_in : (p : ℕ → Bool) (v : ℕ) (xs : List ℕ) → IsIn v (filter p xs) → IsTrue (p v) × IsIn v xs
kept_in p v [] at = absurd at
kept_in p v (x ∷ xs) at = grind (arith, kept_in p v xs)

-- what all elements have, each in the list has
pub all_at : {X : Type 0} (P : X → Type 0) (xs : List X) → AllByRecursion P xs → (y : X) → IsIn y xs → P y
all_at P [] all y at = absurd at
all_at P (x ∷ xs) all y (inl same) = subst P same all.0
all_at P (x ∷ xs) all y (inr there) = all_at P xs all.1 y there

single_from_distinct : (ks : List ℕ) → IsDistinct (eq_by_cmp nat_cmp) ks → IsWithoutRepeats ks
single_from_distinct [] distinct = tt
single_from_distinct (k ∷ ks) distinct =
    (λ there. let apart = all_at _ ks (IsDistinct-head (eq_by_cmp nat_cmp) k ks distinct) k there in grind arith, single_from_distinct ks (IsDistinct-tail (eq_by_cmp nat_cmp) k ks distinct))

-- numbers that rise are without repeats
pub single_from_increasing : (ks : List ℕ) → IsStrictlyIncreasing ks → IsWithoutRepeats ks
single_from_increasing ks up = single_from_distinct ks (IsDistinct-from_sorted nat_cmp ks (sorted_from_strictly_increasing ks up))

-- the names are the present nodes, each once
pub in_names : (net : Network) (v : ℕ) → IsTrue (present net v) → IsIn v (names net)
in_names net v has = let bounds = present_range net v has in in_kept (present net) v (range_with_len 1 net.size) has (in_range 1 net.size v bounds.0 (omega arith))

pub names_present : (net : Network) (v : ℕ) → IsIn v (names net) → IsTrue (present net v)
names_present net v h = (kept_in (present net) v (range_with_len 1 net.size) h).0

pub names_without_repeats : (net : Network) → IsWithoutRepeats (names net)
names_without_repeats net = single_from_increasing (names net) (names_increasing net)

pub names_len : (net : Network) → length (names net) ≡ node_count net
names_len net = refl

any_in : (e : ℕ × ℕ) (pairs : List (ℕ × ℕ)) → list_any (eq_by_cmp pair_cmp e) pairs ≡ true → IsIn e pairs
any_in e [] h = absurd cc
any_in e (pair ∷ pairs) h = grind (arith, any_in e pairs, tells_apart)

in_any : (e : ℕ × ℕ) (pairs : List (ℕ × ℕ)) → IsIn e pairs → list_any (eq_by_cmp pair_cmp e) pairs ≡ true
in_any e [] h = absurd h
in_any e (pair ∷ pairs) at = grind (arith, in_any e pairs, eq_by_cmp_equiv)

-- the listed edges are those of the set
pub in_edges : (net : Network) (e : ℕ × ℕ) → IsTrue (map.contains_key net.edges e) → IsIn e (edge_list net)
in_edges net e h = any_in e (edge_list net) (sym (map.contains_key-keys net.edges e) ∙ h)

pub edges_contain : (net : Network) (e : ℕ × ℕ) → IsIn e (edge_list net) → IsTrue (map.contains_key net.edges e)
edges_contain net e h = map.contains_key-keys net.edges e ∙ in_any e (edge_list net) h

pub edges_len : (net : Network) → length (edge_list net) ≡ edge_count net
edges_len net = length-map (map.entries net.edges) (λ e. e.0) ∙ sym (map.len-entries net.edges)

-- a fact that is true for both orders of the ends is true of the edge
pub edge_either : (P : ℕ × ℕ → Type 0) (v w : ℕ) → P (v, w) → P (w, v) → P (edge v w)
edge_either P v w h k = grind (arith, min, max, cases_lt)
