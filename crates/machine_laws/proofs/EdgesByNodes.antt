-- The edges that pass a test are counted at their ends, each once.
use Rattle.machine_laws.proofs.ChargePrelude.{◌≡◌, ℕ, ◌+◌, ◌<◌, ◌≤◌, Bool, true, false, cond, ◌&&◌, T, List, [], ◌∷◌, map, filter, count_by, sum_by, nat_eq, nat_lt, min, max, IsTrue, refl, sym, ap, ◌∙◌, subst, inl, inr, arith, is_sorted, below_all, and_parts, and_from, ap₂, linked_back, linked_apart, sum_by-cons, eq_by_cmp_equiv, cases_lt, lt-ltb, ⊎_elim, Network, IsNetwork, pair_cmp, edge, names, linked, neighbours, edge_list, pair_total}
use Rattle.std.specs.FinMap as map
use Rattle.machine_laws.proofs.ListCounts.{none_count, IsIn, IsWithoutRepeats, count_cons, sum_add, sum_agree, sum_swap, counted_once, count_agree}
use Rattle.machine_laws.proofs.Members.{in_names, names_without_repeats, in_edges, edges_contain}

holds : (b : Bool) → T b → IsTrue b
holds b h = grind arith

-- ---- no edge is listed twice

below_apart : (k : ℕ × ℕ) (es : List ((ℕ × ℕ) × Unit {0})) → IsTrue (below_all pair_cmp k es) → IsIn k (map (λ e. e.0) es) → ⊥
below_apart k [] h there = absurd there
below_apart k (e ∷ es) h there = grind (arith, below_apart k es, and_parts, (eq_by_cmp_equiv pair_total).refl k)

keys_without_repeats : (es : List ((ℕ × ℕ) × Unit {0})) → IsTrue (is_sorted pair_cmp es) → IsWithoutRepeats (map (λ e. e.0) es)
keys_without_repeats [] h = tt
keys_without_repeats (e ∷ es) h = (below_apart e.0 es (and_parts (below_all pair_cmp e.0 es) (is_sorted pair_cmp es) h).0, keys_without_repeats es (and_parts (below_all pair_cmp e.0 es) (is_sorted pair_cmp es) h).1)

pub edges_without_repeats : (net : Network) → IsWithoutRepeats (edge_list net)
edges_without_repeats net = keys_without_repeats (map.entries net.edges) (holds (is_sorted pair_cmp (map.entries net.edges)) (map.entries_sorted net.edges))

-- ---- sums over names

pub zeros : (xs : List ℕ) → sum_by (λ x. 0) xs ≡ 0
zeros xs = none_count (λ x. false) xs (λ x there. refl)

-- a name in a list without repeats is marked once
pub marked_once : (a : ℕ) (b : Bool) (xs : List ℕ) → IsIn a xs → IsWithoutRepeats xs → sum_by (λ v. cond (nat_eq a v && b) 1 0) xs ≡ cond b 1 0
marked_once a b xs at single = counted_once (λ v. nat_eq a v && b) a xs b single (λ x there h. is x h) (λ h. (at, has h))
  where
    is : (x : ℕ) → (nat_eq a x && b) ≡ true → (x ≡ a) × (b ≡ true)
    is x h = grind arith

    has : b ≡ true → (nat_eq a a && b) ≡ true
    has h = grind arith

-- pairs are counted by the number at one of their ends
pub by_end : (end : ℕ × ℕ → ℕ) (p : ℕ × ℕ → Bool) (es : List (ℕ × ℕ)) (xs : List ℕ) → IsWithoutRepeats xs → ((e : ℕ × ℕ) → IsIn e es → IsIn (end e) xs) → count_by p es ≡ sum_by (λ v. count_by (λ e. nat_eq (end e) v && p e) es) xs
by_end end p [] xs single in_xs = sym (zeros xs)
by_end end p (e ∷ es) xs single in_xs =
    let whole = sum_by-cons (λ e. cond (p e) 1 0) e es in
    let rest = by_end end p es xs single (λ f there. in_xs f (inr there)) in
    let once = marked_once (end e) (p e) xs (in_xs e (inl refl)) single in
    let split = sum_agree (λ v. count_by (λ f. nat_eq (end f) v && p f) (e ∷ es)) (λ v. cond (nat_eq (end e) v && p e) 1 0 + count_by (λ f. nat_eq (end f) v && p f) es) (λ v. sum_by-cons (λ (f : ℕ × ℕ). cond (nat_eq (end f) v && p f) 1 0) e es) xs in
    let both = sum_add (λ v. cond (nat_eq (end e) v && p e) 1 0) (λ v. count_by (λ f. nat_eq (end f) v && p f) es) xs in
    omega (arith, whole, rest, once, split, both)

-- counting among the elements that pass a test
pub count_filter : (q r : ℕ → Bool) (xs : List ℕ) → count_by q (filter r xs) ≡ count_by (λ w. r w && q w) xs
count_filter q r [] = refl
count_filter q r (x ∷ xs) = grind (arith, count_filter q r xs, count_cons q x (filter r xs), count_cons (λ w. r w && q w) x xs)

-- ---- edges by their two ends

-- whether a pair is an edge, lower end first
abbrev pub has : Network → ℕ → ℕ → Bool
has net v w = map.contains_key net.edges (v, w)

-- two nodes are linked from one side
linked_up : (net : Network) → IsNetwork net → (v w : ℕ) → has net v w ≡ (linked net v w && nat_lt v w)
linked_up net good v w = ⊎_elim (λ up. rw (edge_up v w up) (keeps (has net v w) (nat_lt v w) (lt-ltb v w up))) (λ down. not_up (has net v w) (linked net v w) v w down (good.low_first v w)) (cases_lt v w)
  where
    edge_up : (v w : ℕ) → v < w → edge v w ≡ (v, w)
    edge_up v w up = grind (arith, min, max)

    keeps : (h l : Bool) → l ≡ true → h ≡ (h && l)
    keeps h l up = grind arith

    not_up : (h l : Bool) (v w : ℕ) → w ≤ v → (IsTrue h → v < w) → h ≡ (l && nat_lt v w)
    not_up h l v w down up = grind arith

-- one pair is listed once, if it is an edge
at_pair : (net : Network) (p : ℕ × ℕ → Bool) (v w : ℕ) → count_by (λ e. nat_eq e.1 w && (nat_eq e.0 v && p e)) (edge_list net) ≡ cond (has net v w && p (v, w)) 1 0
at_pair net p v w =
    counted_once (λ e. nat_eq e.1 w && (nat_eq e.0 v && p e)) (v, w) (edge_list net) (has net v w && p (v, w)) (edges_without_repeats net)
    (λ e there h. let at = is e.0 e.1 (p e) h in let same : ◌≡◌ {A = ℕ × ℕ} e (v, w) = ap₂ (λ a b. (a, b)) at.0 at.1 in (same, and_from (has net v w) (p (v, w)) (subst (λ f. IsTrue (map.contains_key net.edges f)) same (edges_contain net e there)) (sym (ap p same) ∙ at.2)))
    (λ h. let parts = and_parts (has net v w) (p (v, w)) h in (in_edges net (v, w) parts.0, here (p (v, w)) parts.1))
  where
    is : (a b : ℕ) (q : Bool) → (nat_eq b w && (nat_eq a v && q)) ≡ true → (a ≡ v) × (b ≡ w) × (q ≡ true)
    is a b q h = grind arith

    here : (q : Bool) → q ≡ true → (nat_eq w w && (nat_eq v v && q)) ≡ true
    here q h = grind arith

-- the edges with a given lower end
pub at_node : (net : Network) → IsNetwork net → (p : ℕ × ℕ → Bool) (v : ℕ) → count_by (λ e. nat_eq e.0 v && p e) (edge_list net) ≡ sum_by (λ w. cond (has net v w && p (v, w)) 1 0) (names net)
at_node net good p v =
    by_end (λ e. e.1) (λ e. nat_eq e.0 v && p e) (edge_list net) (names net) (names_without_repeats net) (λ e at. in_names net e.1 (good.high_present e.0 e.1 (edges_contain net e at)))
    ∙ sum_agree (λ w. count_by (λ e. nat_eq e.1 w && (nat_eq e.0 v && p e)) (edge_list net)) (λ w. cond (has net v w && p (v, w)) 1 0) (at_pair net p v) (names net)

edges_by_pairs : (net : Network) → IsNetwork net → (p : ℕ × ℕ → Bool) → count_by p (edge_list net) ≡ sum_by (λ v. sum_by (λ w. cond (has net v w && p (v, w)) 1 0) (names net)) (names net)
edges_by_pairs net good p =
    by_end (λ e. e.0) p (edge_list net) (names net) (names_without_repeats net) (λ e at. in_names net e.0 (good.low_present e.0 e.1 (edges_contain net e at)))
    ∙ sum_agree (λ v. count_by (λ e. nat_eq e.0 v && p e) (edge_list net)) (λ v. sum_by (λ w. cond (has net v w && p (v, w)) 1 0) (names net)) (at_node net good p) (names net)

-- The edges that pass a test are those that pass it at each node's neighbours above it.
pub edges_by_nodes : (net : Network) → IsNetwork net → (p : ℕ × ℕ → Bool) → count_by p (edge_list net) ≡ sum_by (λ v. count_by (λ w. nat_lt v w && p (v, w)) (neighbours net v)) (names net)
edges_by_nodes net good p =
    edges_by_pairs net good p
    ∙ sum_agree (λ v. sum_by (λ w. cond (has net v w && p (v, w)) 1 0) (names net)) (λ v. count_by (λ w. nat_lt v w && p (v, w)) (neighbours net v))
    (λ v. sum_agree (λ w. cond (has net v w && p (v, w)) 1 0) (λ w. cond (linked net v w && (nat_lt v w && p (v, w))) 1 0) (λ w. ap (λ b. cond (b && p (v, w)) 1 0) (linked_up net good v w) ∙ assoc (linked net v w) (nat_lt v w) (p (v, w))) (names net) ∙ sym (count_filter (λ w. nat_lt v w && p (v, w)) (linked net v) (names net))) (names net)
  where
    assoc : (l u q : Bool) → ◌≡◌ {A = ℕ} (cond ((l && u) && q) 1 0) (cond (l && (u && q)) 1 0)
    assoc l u q = grind arith

-- what is counted at a node's neighbours is counted at each edge from it or to it
pub at_both : (net : Network) → IsNetwork net → (r : ℕ → Bool) (v : ℕ) → count_by r (neighbours net v) ≡ sum_by (λ w. cond (has net v w && r w) 1 0) (names net) + sum_by (λ w. cond (has net w v && r w) 1 0) (names net)
at_both net good r v =
    count_filter r (linked net v) (names net)
    ∙ sum_agree (λ w. cond (linked net v w && r w) 1 0) (λ w. cond (has net v w && r w) 1 0 + cond (has net w v && r w) 1 0) (λ w. rw (linked_up net good v w, linked_up net good w v, linked_back net w v) (one (linked net v w) (r w) v w (linked_apart net v w good))) (names net)
    ∙ sum_add (λ w. cond (has net v w && r w) 1 0) (λ w. cond (has net w v && r w) 1 0) (names net)
  where
    one : (l q : Bool) (v w : ℕ) → (IsTrue l → v ≡ w → ⊥) → ◌≡◌ {A = ℕ} (cond (l && q) 1 0) (cond (l && nat_lt v w && q) 1 0 + cond (l && nat_lt w v && q) 1 0)
    one l q v w apart = grind arith

-- What is counted at each node's neighbours is counted at each edge from both of its ends.
pub by_both : (net : Network) → IsNetwork net → (r : ℕ → ℕ → Bool) → sum_by (λ v. count_by (r v) (neighbours net v)) (names net) ≡ count_by (λ e. r e.0 e.1) (edge_list net) + count_by (λ e. r e.1 e.0) (edge_list net)
by_both net good r =
    let each = sum_agree (λ v. count_by (r v) (neighbours net v)) (λ v. sum_by (λ w. cond (has net v w && r v w) 1 0) (names net) + sum_by (λ w. cond (has net w v && r v w) 1 0) (names net)) (λ v. at_both net good (r v) v) (names net) in
    let both = sum_add (λ v. sum_by (λ w. cond (has net v w && r v w) 1 0) (names net)) (λ v. sum_by (λ w. cond (has net w v && r v w) 1 0) (names net)) (names net) in
    omega (arith, each, both, edges_by_pairs net good (λ e. r e.0 e.1), edges_by_pairs net good (λ e. r e.1 e.0), sum_swap (λ v w. cond (has net w v && r v w) 1 0) (names net) (names net))

-- the edges with a given higher end
pub at_upper : (net : Network) → IsNetwork net → (p : ℕ × ℕ → Bool) (v : ℕ) → count_by (λ e. nat_eq e.1 v && p e) (edge_list net) ≡ sum_by (λ w. cond (has net w v && p (w, v)) 1 0) (names net)
at_upper net good p v =
    by_end (λ e. e.0) (λ e. nat_eq e.1 v && p e) (edge_list net) (names net) (names_without_repeats net) (λ e at. in_names net e.0 (good.low_present e.0 e.1 (edges_contain net e at)))
    ∙ sum_agree (λ w. count_by (λ e. nat_eq e.0 w && (nat_eq e.1 v && p e)) (edge_list net)) (λ w. cond (has net w v && p (w, v)) 1 0) (λ w. count_agree (λ e. nat_eq e.0 w && (nat_eq e.1 v && p e)) (λ e. nat_eq e.1 v && (nat_eq e.0 w && p e)) (λ e. turn (nat_eq e.0 w) (nat_eq e.1 v) (p e)) (edge_list net) ∙ at_pair net p w v) (names net)
  where
    turn : (c d q : Bool) → (c && (d && q)) ≡ (d && (c && q))
    turn c d q = grind arith
