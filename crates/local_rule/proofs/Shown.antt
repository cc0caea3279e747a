-- What a state shows at a node has no fault, and all states that show it agree at the node.
use Rattle.local_rule.proofs.Prelude.{◌≡◌, ℕ, ◌+◌, ◌<◌, Bool, true, false, cond, List, [], ◌∷◌, map, find, filter, nat_eq, nat_le, Option, None, Some, is_some, IsTrue, refl, sym, ap, ◌∙◌, subst, inl, inr, ⊎_elim, arith, true≢false, false_from_ne_true, eqb-true, eq-eqb, ne_eqb, nat_tests, cond-true, cond-false, same_Some, both_ways, option_map, AllByRecursion, IsStrictlyIncreasing, IsStrictlyIncreasing-filter, NodeRecord, node_record_at, Network, IsNetwork, linked, neighbours, names, State, IsState, pointer, is_at, some_from_is_at, SameAt, IsNear, RisesFrom, rises_from, names_increasing, option_cases, linked_apart, linked_present, linked_back, near_found, near_some, present_range, pointer_linked, row_fault, rows_fault, own_fault, first_fault, ShowsAtNode, record_of}
use Rattle.local_rule.proofs.Rows.{none_before}

-- the names among the records of these nodes
pub names_shown : (s : State) (vs : List ℕ) → map (λ (r : NodeRecord). r.node) (map (node_record_at s) vs) ≡ vs
names_shown s [] = refl
names_shown s (v ∷ vs) = ap (λ l. v ∷ l) (names_shown s vs)

-- a search among the records of nodes is one among the nodes
pub find_shown : (s : State) (q : NodeRecord → Bool) (vs : List ℕ) → find q (map (node_record_at s) vs) ≡ option_map (node_record_at s) (find (λ v. q (node_record_at s v)) vs)
find_shown s q [] = refl
find_shown s q (v ∷ vs) = go (q (node_record_at s v)) (find_shown s q vs)
  where
    go : (b : Bool) → find q (map (node_record_at s) vs) ≡ option_map (node_record_at s) (find (λ v. q (node_record_at s v)) vs) → cond b (Some (node_record_at s v)) (find q (map (node_record_at s) vs)) ≡ option_map (node_record_at s) (cond b (Some v) (find (λ v. q (node_record_at s v)) vs))
    go true rest = refl
    go false rest = rest

-- a neighbour is found by its name
near_named : (net : Network) (v w : ℕ) → IsNetwork net → IsTrue (linked net v w) → find (λ x. nat_eq x w) (neighbours net v) ≡ Some w
near_named net v w good h =
    let found = near_found net (λ x. nat_eq x w) v w good h (eq-eqb w w refl) in
    found.1 ∙ ap Some (eqb-true found.0 w (near_some net (λ x. nat_eq x w) v found.0 found.1).1)

linked_named : (net : Network) (v w : ℕ) → IsNetwork net → linked net v w ≡ is_some (find (λ x. nat_eq x w) (neighbours net v))
linked_named net v w good =
    both_ways _ _
    (λ h. ap is_some (near_named net v w good h))
    (
    λ h. ⊎_elim
    (λ none. absurd (true≢false (sym h ∙ ap is_some none)))
    (
    λ some. let found = near_some net (λ x. nat_eq x w) v some.0 some.1 in
    subst (λ x. linked net v x ≡ true) (eqb-true some.0 w found.1) found.0
    )
    (option_cases (find (λ x. nat_eq x w) (neighbours net v)))
    )

-- a neighbour's record, as shown
pub shown_record : (s : State) (own : NodeRecord) (around : List NodeRecord) (w : ℕ) → ShowsAtNode s own around → IsTrue (linked s.network own.node w) → record_of around w ≡ Some (node_record_at s w)
shown_record s own around w shows h =
    ap (λ rows. record_of rows w) shows.others
    ∙ find_shown s (λ r. nat_eq r.node w) (neighbours s.network own.node)
    ∙ ap (option_map (node_record_at s)) (near_named s.network own.node w shows.is_state.is_network h)

-- who has a record is a neighbour
pub shown_linked : (s : State) (own : NodeRecord) (around : List NodeRecord) (w : ℕ) → ShowsAtNode s own around → linked s.network own.node w ≡ is_some (record_of around w)
shown_linked s own around w shows =
    linked_named s.network own.node w shows.is_state.is_network
    ∙ kept (find (λ x. nat_eq x w) (neighbours s.network own.node))
    ∙ sym (ap is_some (ap (λ rows. record_of rows w) shows.others ∙ find_shown s (λ r. nat_eq r.node w) (neighbours s.network own.node)))
  where
    kept : (o : Option ℕ) → is_some o ≡ is_some (option_map (node_record_at s) o)
    kept None = refl
    kept (Some x) = refl

-- two states that show the same agree at the node
shown_alike : (s u : State) (own : NodeRecord) (around : List NodeRecord) → ShowsAtNode s own around → ShowsAtNode u own around → (w : ℕ) → IsNear s own.node w → node_record_at s w ≡ node_record_at u w
shown_alike s u own around here there w (inl same) = subst (λ v. node_record_at s v ≡ node_record_at u v) (sym same) (sym here.itself ∙ there.itself)
shown_alike s u own around here there w (inr h) =
    same_Some _ _ (
    sym (shown_record s own around w here h)
    ∙ shown_record u own around w there (shown_linked u own around w there ∙ sym (shown_linked s own around w here) ∙ h)
    )

pub same_shown : (s u : State) (own : NodeRecord) (around : List NodeRecord) → ShowsAtNode s own around → ShowsAtNode u own around → SameAt s u own.node
same_shown s u own around here there = record {
  neighbours = sym (names_shown s _) ∙ ap (map (λ (r : NodeRecord). r.node)) (sym here.others ∙ there.others) ∙ names_shown u _;
  linked = λ w. shown_linked s own around w here ∙ sym (shown_linked u own around w there);
  pointers = λ w near. ap (λ (r : NodeRecord). r.target) (shown_alike s u own around here there w near);
  flags = λ w near. ap (λ (r : NodeRecord). r.flagged) (shown_alike s u own around here there w near);
}

-- ---- nothing that is shown has a fault

row_passes : (s : State) (me before v : ℕ) → IsState s → IsTrue (linked s.network me v) → before < v → row_fault me before (node_record_at s v) ≡ None
row_passes s me before v good h above =
    cond-false _ _ _ (later v before above)
    ∙ cond-false _ _ _ (ne_eqb v me (λ same. linked_apart s.network me v good.is_network h (sym same)))
    ∙ cond-false _ _ _ (false_from_ne_true (is_at (pointer s v) v) (λ at. linked_apart s.network v v good.is_network (pointer_linked s v v good (some_from_is_at (pointer s v) v at)) refl))
  where
    later : (a b : ℕ) → b < a → nat_le a b ≡ false
    later a b lt = grind (arith, nat_tests)

rows_pass : (s : State) (me before : ℕ) (vs : List ℕ) → IsState s → AllByRecursion (λ v. IsTrue (linked s.network me v)) vs → RisesFrom (before + 1) vs → rows_fault me before (map (node_record_at s) vs) ≡ None
unfolding RisesFrom
rows_pass s me before [] good near up = refl
rows_pass s me before (v ∷ vs) good near up =
    none_before _ _ (row_passes s me before v good near.0 (let le = up.0 in omega arith)) (rows_pass s me v vs good near.1 up.1)

kept_all : (p : ℕ → Bool) (xs : List ℕ) → AllByRecursion (λ x. IsTrue (p x)) (filter p xs)
kept_all p [] = tt
kept_all p (x ∷ xs) = go (p x) refl (kept_all p xs)
  where
    go : (b : Bool) → p x ≡ b → AllByRecursion (λ y. IsTrue (p y)) (filter p xs) → AllByRecursion (λ y. IsTrue (p y)) (cond b (x ∷ filter p xs) (filter p xs))
    go true is rest = (is, rest)
    go false is rest = rest

neighbours_rise : (net : Network) (v : ℕ) → IsNetwork net → RisesFrom 1 (neighbours net v)
unfolding RisesFrom
neighbours_rise net v good = go (neighbours net v) refl (IsStrictlyIncreasing-filter (linked net v) (names net) (names_increasing net)) (kept_all (linked net v) (names net))
  where
    go : (vs : List ℕ) → neighbours net v ≡ vs → IsStrictlyIncreasing vs → AllByRecursion (λ w. IsTrue (linked net v w)) vs → RisesFrom 1 vs
    go [] is up near = tt
    go (w ∷ ws) is up near =
        let bounds = present_range net w (linked_present net w v good (linked_back net w v ∙ near.0)) in
        rises_from 1 w ws bounds.0 up

own_passes : (s : State) (own : NodeRecord) (around : List NodeRecord) → ShowsAtNode s own around → (o : Option ℕ) → own.target ≡ o → own_fault around o ≡ None
own_passes s own around shows None at = refl
own_passes s own around shows (Some w) at =
    let near = pointer_linked s own.node w shows.is_state (ap (λ (r : NodeRecord). r.target) (sym shows.itself) ∙ at) in
    cond-true _ _ _ (ap is_some (shown_record s own around w shows near))

pub shown_has_no_fault : (s : State) (own : NodeRecord) (around : List NodeRecord) → ShowsAtNode s own around → first_fault own around ≡ None
shown_has_no_fault s own around shows =
    none_before _ _
    (
    ap (rows_fault own.node 0) shows.others
    ∙ rows_pass s own.node 0 (neighbours s.network own.node) shows.is_state (kept_all (linked s.network own.node) (names s.network)) (neighbours_rise s.network own.node shows.is_state.is_network)
    )
    (own_passes s own around shows own.target refl)
