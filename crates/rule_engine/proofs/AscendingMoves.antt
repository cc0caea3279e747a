-- The moves of a choice in the order of their nodes are its least moves: both rise, and have the same
-- members.
use Rattle.rule_engine.proofs.Prelude.{◌≡◌, ℕ, suc, ◌+◌, ◌<◌, Bool, false, List, [], ◌∷◌, ◌++◌, map, filter_map, get_or, Contains, Option, None, Some, is_some, option_and_then, IsTrue, nat_eq, refl, sym, ap, ap₂, ◌∙◌, subst, ⊎_elim, arith, list_any, AllByRecursion, cons_option, IsPermutation, IsStrictlyIncreasing, IsNonDecreasing, IsNonDecreasingBy, option_or, or_parts, get_or-map, length-map, list_any-append, AllPairs-from_increasing, IsStrictlyIncreasing-filter, IsPermutation-refl, IsPermutation-map, IsPermutation-sym, Contains-permutation, IsDistinct-IsPermutation, IsStrictlyIncreasing-from_distinct, nat_eq_equiv, option_and_then_some, Abandon, Item, Moved, names, present, State, RuleTable, item_refusal, items_refusal, outcome_of, move_in, item_of, least_moves, contains_first, contains_rest, contains_empty, contains_cases, filter_map_from, makes_from_outcome, move_at, find_passes, find_contains, filter_map_contains, filter_map_nodes, names_increasing, names_contains, taken_from_none, taken_at, choice_from_none, moves_by, AreLeast, eqb-true}
use Rattle.std.specs.List.{IsDistinct}

abbrev node_of : Moved → ℕ
node_of m = m.node

-- ---- lists that rise

pub rises_tail : (a : ℕ) (vs : List ℕ) → IsStrictlyIncreasing (a ∷ vs) → IsStrictlyIncreasing vs
rises_tail a vs up k below =
    let e : suc k + 1 ≡ suc (k + 1) = omega arith in
    subst (λ n. get_or vs k 0 < get_or (a ∷ vs) n 0) e (up (suc k) (omega arith))

rises_head : (x : Moved) (xs : List Moved) (m : Moved) → IsStrictlyIncreasing (map node_of (x ∷ xs)) → Contains xs m → x.node < m.node
rises_head x xs m up at =
    let below : x.node < get_or (map node_of xs) at.0 x.node = AllPairs-from_increasing (map node_of (x ∷ xs)) up 0 (suc at.0) x.node (omega arith) (omega (arith, length-map xs node_of, at.1)) in
    let same : get_or (map node_of xs) at.0 x.node ≡ m.node = get_or-map node_of xs at.0 m x.node at.1 ∙ ap node_of at.2 in
    omega arith

-- Two lists of moves that rise by node and have the same members are equal. By induction: each head is a
-- member of the other list, so neither is below the other; the rest after a head is above it, so the rests
-- have the same members too.
same_rising : (xs ys : List Moved) → IsStrictlyIncreasing (map node_of xs) → IsStrictlyIncreasing (map node_of ys) → ((m : Moved) → Contains xs m → Contains ys m) → ((m : Moved) → Contains ys m → Contains xs m) → xs ≡ ys
same_rising [] [] up up' to back = refl
same_rising [] (y ∷ ys) up up' to back = absurd (contains_empty y (back y (contains_first y ys)))
same_rising (x ∷ xs) [] up up' to back = absurd (contains_empty x (to x (contains_first x xs)))
same_rising (x ∷ xs) (y ∷ ys) up up' to back =
    let same : x ≡ y =
    ⊎_elim
    (λ (e : y ≡ x). sym e)
    (λ (later : Contains ys x).
    ⊎_elim
    (λ (e : x ≡ y). e)
    (λ (behind : Contains xs y). let a = rises_head x xs y up behind in let b = rises_head y ys x up' later in absurd (omega arith))
    (contains_cases x y xs (back y (contains_first y ys))))
    (contains_cases y x ys (to x (contains_first x xs)))
    in
    let rest : xs ≡ ys =
    same_rising xs ys (rises_tail x.node (map node_of xs) up) (rises_tail y.node (map node_of ys) up')
    (λ m at.
    ⊎_elim
    (λ (e : y ≡ m). let a = rises_head x xs m up at in let b : x.node ≡ m.node = ap node_of (same ∙ e) in absurd (omega arith))
    (λ (there : Contains ys m). there)
    (contains_cases y m ys (to m (contains_rest x m xs at))))
    (λ m at.
    ⊎_elim
    (λ (e : x ≡ m). let a = rises_head y ys m up' at in let b : y.node ≡ m.node = ap node_of (sym same ∙ e) in absurd (omega arith))
    (λ (there : Contains xs m). there)
    (contains_cases x m xs (back m (contains_rest y m ys at))))
    in
    ap₂ ◌∷◌ same rest

-- nodes that do not fall and differ rise
rises_from : (ms : List Moved) → IsNonDecreasingBy node_of ms → IsDistinct nat_eq (map node_of ms) → IsStrictlyIncreasing (map node_of ms)
rises_from ms up distinct = IsStrictlyIncreasing-from_distinct (map node_of ms) nodes distinct
  where
    none : Moved
    none = record { node = 0; act = Abandon; target = None }

    nodes : IsNonDecreasing (map node_of ms)
    nodes i j d le below =
        let l = length-map ms node_of in
        let first = get_or-map node_of ms i none d (omega arith) in
        let second = get_or-map node_of ms j none d (omega arith) in
        let ordered = up i j none le (omega arith) in
        omega arith

-- ---- the moves of a choice

-- no item names the move's node
abbrev pub IsFresh : List Item → Moved → Type 0
IsFresh items m = list_any (λ i. nat_eq i.node m.node) items ≡ false

-- moves that are fresh after one more item are fresh, and of other nodes
fresh_behind : (earlier : List Item) (item : Item) (v : ℕ) → v ≡ item.node → (ms : List Moved) → AllByRecursion (IsFresh (earlier ++ item ∷ [])) ms → AllByRecursion (IsFresh earlier) ms × AllByRecursion (λ w. nat_eq v w ≡ false) (map node_of ms)
fresh_behind earlier item v same [] fresh = (tt, tt)
fresh_behind earlier item v same (m ∷ ms) fresh =
    let named : Item → Bool = λ i. nat_eq i.node m.node in
    let parts = or_parts (list_any named earlier) (list_any named (item ∷ [])) (sym (list_any-append named earlier (item ∷ [])) ∙ fresh.0) in
    let other = or_parts (named item) false parts.1 in
    let rest = fresh_behind earlier item v same ms fresh.1 in
    ((parts.0, rest.0), (ap (λ n. nat_eq n m.node) same ∙ other.0, rest.1))

or_none : {X : Type 0} (o p : Option X) → option_or o p ≡ None → (o ≡ None) × (p ≡ None)
or_none None p none = (refl, none)
or_none (Some x) p none = absurd cc

-- of a choice that is not refused, no two moves are of one node
made_apart : (t : RuleTable) (s : State) (earlier items : List Item) → items_refusal t s earlier items ≡ None → AllByRecursion (IsFresh earlier) (moves_by t s items) × IsDistinct nat_eq (map node_of (moves_by t s items))
unfolding IsDistinct
made_apart t s earlier [] none = (tt, tt)
made_apart t s earlier (item ∷ items) none =
    let parts = or_none (item_refusal t s earlier item) (items_refusal t s (earlier ++ item ∷ []) items) none in
    let taken = taken_from_none t s earlier item parts.0 in
    let m = taken.move.0 in
    let node : m.node ≡ item.node = (makes_from_outcome t s item m taken.move.1).node in
    let rest = made_apart t s (earlier ++ item ∷ []) items parts.1 in
    let behind = fresh_behind earlier item m.node node (moves_by t s items) rest.0 in
    subst (λ o. AllByRecursion (IsFresh earlier) (cons_option o (moves_by t s items)) × IsDistinct nat_eq (map node_of (cons_option o (moves_by t s items)))) (sym taken.move.1)
    ((ap (λ v. list_any (λ i. nat_eq i.node v) earlier) node ∙ taken.fresh, behind.0), (behind.1, rest.1))

-- what h gives, it gives for an item
given_by : {X Y : Type 0} (h : X → Option Y) (xs : List X) (y : Y) → Contains (filter_map h xs) y → (x : X) × Contains xs x × (h x ≡ Some y)
given_by h [] y at = absurd (contains_empty y at)
given_by {X = X} {Y = Y} h (x ∷ xs) y at = go (h x) refl (λ there. given_by h xs y there) at
  where
    later : (z : X) × Contains xs z × (h z ≡ Some y) → (z : X) × Contains (x ∷ xs) z × (h z ≡ Some y)
    later rest = (rest.0, contains_rest x rest.0 xs rest.1, rest.2)

    go : (o : Option Y) → h x ≡ o → (Contains (filter_map h xs) y → (z : X) × Contains xs z × (h z ≡ Some y)) → Contains (cons_option o (filter_map h xs)) y → (z : X) × Contains (x ∷ xs) z × (h z ≡ Some y)
    go None e more there = later (more there)
    go (Some z) e more there =
        ⊎_elim (λ (same : z ≡ y). (x, contains_first x xs, e ∙ ap Some same)) (λ (behind : Contains (filter_map h xs) y). later (more behind)) (contains_cases z y (filter_map h xs) there)

-- each move of a choice that is not refused is a least one: its item is present and the first of its node
made_is_least : (t : RuleTable) (s : State) (items : List Item) → items_refusal t s [] items ≡ None → (m : Moved) → Contains (moves_by t s items) m → Contains (least_moves t s items) m
made_is_least t s items none m at =
    let given = given_by (λ i. move_in (outcome_of t s i)) items m at in
    let item = given.0 in
    let taken = taken_at t s [] items none given.1.0 item given.1.1 in
    let same : get_or items given.1.0 item ≡ item = given.1.2 in
    let first : item_of items item.node ≡ Some item = subst (λ (i : Item). item_of items i.node ≡ Some i) same taken.1 in
    let has = subst (λ (i : Item). IsTrue (present s.network i.node)) same taken.0.has in
    filter_map_contains (move_at t s items) (names s.network) item.node m (names_contains s.network item.node has) (ap (option_and_then (λ i. move_in (outcome_of t s i))) first ∙ given.2)

-- and each least move is one of those that the items make
least_is_made : (t : RuleTable) (s : State) (items : List Item) (m : Moved) → Contains (least_moves t s items) m → Contains (moves_by t s items) m
least_is_made t s items m at =
    let given = filter_map_from (move_at t s items) (names s.network) m at in
    option_and_then_some (λ item. move_in (outcome_of t s item)) (item_of items given.0) m given.1
    (λ item found move. filter_map_contains (λ i. move_in (outcome_of t s i)) items item m (find_contains (λ i. nat_eq i.node given.0) items item found) move)

least_rises : (t : RuleTable) (s : State) (items : List Item) → IsStrictlyIncreasing (map node_of (least_moves t s items))
least_rises t s items =
    subst IsStrictlyIncreasing (sym (filter_map_nodes (move_at t s items) at_node (names s.network)))
    (IsStrictlyIncreasing-filter (λ v. is_some (move_at t s items v)) (names s.network) (names_increasing s.network))
  where
    at_node : (v : ℕ) (m : Moved) → move_at t s items v ≡ Some m → m.node ≡ v
    at_node v m e =
        option_and_then_some (λ item. move_in (outcome_of t s item)) (item_of items v) m e
        (λ item found move. (makes_from_outcome t s item m move).node ∙ eqb-true item.node v (find_passes (λ i. nat_eq i.node v) items item found))

-- The moves of a choice in the order of their nodes are the least ones.
pub least_from_sorted : (made moves : List Moved) → IsPermutation made moves → IsNonDecreasingBy (λ m. m.node) moves → AreLeast made moves
least_from_sorted made moves same up = λ t s items is none.
    let accepted = (choice_from_none t s items none).taken in
    let moved : IsPermutation (moves_by t s items) moves = subst (λ ms. IsPermutation ms moves) is same in
    let distinct : IsDistinct nat_eq (map node_of moves) = IsDistinct-IsPermutation nat_eq nat_eq_equiv.symm (map node_of (moves_by t s items)) (map node_of moves) (IsPermutation-map node_of (moves_by t s items) moves moved) (made_apart t s [] items accepted).1 in
    same_rising moves (least_moves t s items) (rises_from moves up distinct) (least_rises t s items)
    (λ m at. made_is_least t s items accepted m (Contains-permutation moves (moves_by t s items) m (IsPermutation-sym (moves_by t s items) moves moved) at))
    (λ m at. Contains-permutation (moves_by t s items) moves m moved (least_is_made t s items m at))

-- the one move of a choice of one item is its least one
pub one_least : (t : RuleTable) (s : State) (item : Item) (m : Moved) → move_in (outcome_of t s item) ≡ Some m → AreLeast (moves_by t s (item ∷ [])) (m ∷ [])
one_least t s item m e =
    subst (λ made. AreLeast made (m ∷ [])) (sym (ap (λ o. cons_option o []) e)) (least_from_sorted (m ∷ []) (m ∷ []) (IsPermutation-refl (m ∷ [])) up)
  where
    up : IsNonDecreasingBy (λ x. x.node) (m ∷ [])
    up i j d le below =
        let same : i ≡ j = omega arith in
        let nodes : (get_or (m ∷ []) i d).node ≡ (get_or (m ∷ []) j d).node = ap (λ k. (get_or (m ∷ []) k d).node) same in
        omega arith
