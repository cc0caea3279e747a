-- Edges, and searches among the neighbours of a node.
use Rattle.machine_laws.proofs.ChargePrelude.Imports.{◌≡◌, ◌≢◌, ℕ, ◌<◌, ◌≤◌, Bool, true, false, ◌&&◌, Option, None, Some, find, filter, List, [], ◌∷◌, IsTrue, refl, sym, ap, ◌∙◌, inl, inr, ⊎_elim, ◌⊎◌, arith, leb-true, range_with_len, cases_order, and_parts, true≢false, false_from_ne_true, Network, IsNetwork, linked, neighbours, names, present}
use Rattle.std.specs.FinMap as map
use Rattle.machine_laws.proofs.Search.{find-filter, find-agree, range_none, range_some, range_fails}

-- an option is None or Some
pub option_cases : {X : Type 0} (o : Option X) → (o ≡ None) ⊎ ((x : X) × (o ≡ Some x))
option_cases None = inl refl
option_cases (Some x) = inr (x, refl)

-- a present name is from 1 to the size
pub present_range : (net : Network) (v : ℕ) → IsTrue (present net v) → (1 ≤ v) × (v ≤ net.size)
present_range net v h = grind (arith, and_parts, leb-true)

-- a search among the names that finds nothing
pub names_none : (net : Network) (p : ℕ → Bool) → find p (names net) ≡ None → (v : ℕ) → IsTrue (present net v) → p v ≡ false
names_none net p e v has =
    let all = sym (find-filter p (present net) (range_with_len 1 net.size)) ∙ e in
    let bounds = present_range net v has in
    let fails = range_none (λ x. present net x && p x) 1 net.size all v bounds.0 (omega arith) in
    ap (λ b. b && p v) (sym has) ∙ fails

-- finds a node that passes
pub names_some : (net : Network) (p : ℕ → Bool) (v : ℕ) → find p (names net) ≡ Some v → IsTrue (present net v) × (p v ≡ true)
names_some net p v e = grind (arith, find-filter, and_parts, range_some)

-- a search over names that no node passes
pub names_fails : (net : Network) (p : ℕ → Bool) → ((v : ℕ) → IsTrue (present net v) → p v ≡ false) → find p (names net) ≡ None
names_fails net p h = grind (arith, find-filter, range_fails)

-- an edge has no direction
pub linked_back : (net : Network) (v w : ℕ) → linked net v w ≡ linked net w v
linked_back net v w = grind arith

-- the edge of a lower and a higher name
pub linked_pair : (net : Network) (v w : ℕ) → v < w → linked net v w ≡ map.contains_key net.edges (v, w)
linked_pair net v w below = grind arith

-- the ends of an edge are two
pub linked_apart : (net : Network) (v w : ℕ) → IsNetwork net → IsTrue (linked net v w) → v ≢ w
linked_apart net v w is_network h same = grind arith

-- the ends of an edge are present
pub linked_present : (net : Network) (v w : ℕ) → IsNetwork net → IsTrue (linked net v w) → IsTrue (present net v)
linked_present net v w is_network h = grind (arith, linked_pair, linked_back, cases_order)

-- no neighbour passes
pub near_none : (net : Network) (p : ℕ → Bool) (v : ℕ) → IsNetwork net → find p (neighbours net v) ≡ None → (w : ℕ) → IsTrue (linked net v w) → p w ≡ false
near_none net p v is_network e w h = grind (arith, find-filter, names_none, linked_present, linked_back)

-- a neighbour passes
pub near_some : (net : Network) (p : ℕ → Bool) (v w : ℕ) → find p (neighbours net v) ≡ Some w → IsTrue (linked net v w) × IsTrue (p w)
near_some net p v w e =
    let all = sym (find-filter p (linked net v) (names net)) ∙ e in
    and_parts _ _ (names_some net (λ x. linked net v x && p x) w all).1

-- a search over neighbours that one passes
pub near_found : (net : Network) (p : ℕ → Bool) (v w : ℕ) → IsNetwork net → IsTrue (linked net v w) → IsTrue (p w) → (x : ℕ) × (find p (neighbours net v) ≡ Some x)
near_found net p v w is_network h passes =
    ⊎_elim
    (λ none. let fails = near_none net p v is_network none w h in absurd cc)
    (λ some. some)
    (option_cases (find p (neighbours net v)))

-- a search over neighbours that none passes
pub near_fails : (net : Network) (p : ℕ → Bool) (v : ℕ) → ((w : ℕ) → IsTrue (linked net v w) → p w ≡ false) → find p (neighbours net v) ≡ None
near_fails net p v h =
    ⊎_elim
    (λ none. none)
    (λ some. let found = near_some net p v some.0 some.1 in let fails = h some.0 found.0 in absurd cc)
    (option_cases (find p (neighbours net v)))

-- two tests that agree at each neighbour
pub near_agree : (net : Network) (p q : ℕ → Bool) (v : ℕ) → ((w : ℕ) → IsTrue (linked net v w) → p w ≡ q w) → find p (neighbours net v) ≡ find q (neighbours net v)
near_agree net p q v h = grind (arith, find-filter, find-agree)

-- a test that only what was kept passes
filter_within : (p q : ℕ → Bool) → ((x : ℕ) → IsTrue (p x) → IsTrue (q x)) → (xs : List ℕ) → filter p (filter q xs) ≡ filter p xs
filter_within p q h [] = refl
filter_within p q h (x ∷ xs) = grind (arith, filter_within p q h xs, false_from_ne_true, true≢false)

-- A node's neighbours, among all names up to the size: only nodes are linked.
pub neighbours_range : (net : Network) (v : ℕ) → IsNetwork net → neighbours net v ≡ filter (linked net v) (range_with_len 1 net.size)
neighbours_range net v good = grind (arith, filter_within, linked_present, linked_back)
