-- A star is a state that shows what it was made of.
use Rattle.local_rule.proofs.Prelude.{◌≡◌, ◌≢◌, ℕ, ◌+◌, ◌<◌, ◌≤◌, max, Bool, true, false, cond, ◌&&◌, ◌||◌, List, [], ◌∷◌, map, filter, nat_eq, nat_le, Option, None, Some, is_some, IfSome, IsTrue, refl, sym, ap, ap₂, ◌∙◌, subst, inl, inr, ◌⊎◌, ⊎_elim, arith, cases_Bool, cases_lt, true≢false, and_parts, and_from, or_left, or_right, eq-eqb, eqb-true, ne_eqb, le-leb, cond-true, cond-false, none-some, same_Some, both_ways, get_or_past, length-map-range_with_len, get_or-map-range_with_len, filter_agree, AllByRecursion, range_with_len, NodeRecord, node_record_at, Network, IsNetwork, present, linked, neighbours, edge, edgeless, with_edge, State, IsState, pointer, flag, has, part_of_names, same_pair, has-insert, contains-empty, edgeless_is_network, with_edge_is_network, option_cases, neighbours_range, if_some_from, ShowsAtNode, record_of, greatest_in, with_target_edge, star_network, record_in, target_found, flag_in, star_of, star, first_fault, rows_fault, own_fault}
use Rattle.local_rule.proofs.Rows.{AreRows, names_of, neither, rows_are, names_increase, found_row, has_name, each_found}

-- ---- the network

present_target : (net : Network) (a : ℕ) (o : Option ℕ) (v : ℕ) → present (with_target_edge net a o) v ≡ present net v
present_target net a None v = refl
present_target net a (Some w) v = refl

size_target : (net : Network) (a : ℕ) (o : Option ℕ) → (with_target_edge net a o).size ≡ net.size
size_target net a None = refl
size_target net a (Some w) = refl

pub size_star : (size me : ℕ) (rows : List NodeRecord) → (star_network size me rows).size ≡ size
size_star size me [] = refl
size_star size me (r ∷ rows) = size_target (with_edge (star_network size me rows) me r.node) r.node r.target ∙ size_star size me rows

present_star : (size me : ℕ) (rows : List NodeRecord) (v : ℕ) → present (star_network size me rows) v ≡ present (edgeless size) v
present_star size me [] v = refl
present_star size me (r ∷ rows) v = present_target (with_edge (star_network size me rows) me r.node) r.node r.target v ∙ present_star size me rows v

edgeless_has : (size v : ℕ) → 1 ≤ v → v ≤ size → IsTrue (present (edgeless size) v)
edgeless_has size v low high =
    and_from _ _ (le-leb 1 v low) (and_from _ _ (le-leb v size high) (get_or-map-range_with_len (λ x. nat_le 1 x && nat_le x size) 0 (size + 1) v v false (omega arith) (omega arith) ∙ and_from _ _ (le-leb 1 v low) (le-leb v size high)))

pub star_has : (size me : ℕ) (rows : List NodeRecord) (v : ℕ) → 1 ≤ v → v ≤ size → IsTrue (present (star_network size me rows) v)
star_has size me rows v low high = present_star size me rows v ∙ edgeless_has size v low high

target_is_network : (net : Network) (a : ℕ) (o : Option ℕ) → IsNetwork net → IsTrue (present net a) → ((w : ℕ) → o ≡ Some w → IsTrue (present net w) × (w ≢ a)) → IsNetwork (with_target_edge net a o)
target_is_network net a None good here target = good
target_is_network net a (Some w) good here target =
    with_edge_is_network net a w good here (target w refl).0 (λ same. (target w refl).1 (sym same))

pub star_is_network : (size me before : ℕ) (rows : List NodeRecord) → 1 ≤ me → me ≤ size → AreRows size me before rows → IsNetwork (star_network size me rows)
star_is_network size me before [] low high good = edgeless_is_network size size
star_is_network size me before (r ∷ rows) low high good =
    let above = good.0.above in
    let here = star_has size me rows r.node (omega arith) good.0.within in
    target_is_network (with_edge (star_network size me rows) me r.node) r.node r.target
    (with_edge_is_network (star_network size me rows) me r.node (star_is_network size me r.node rows low high good.1) (star_has size me rows me low high) here (λ same. good.0.apart (sym same)))
    here
    (λ w at. let is = good.0.target w at in (star_has size me rows w is.0 is.1, is.2))

-- ---- its edges

linked_with : (net : Network) (a b c d : ℕ) → linked (with_edge net a b) c d ≡ (same_pair (edge c d) (edge a b) || linked net c d)
linked_with net a b c d = has-insert net.edges (edge a b) (edge c d)

pair_parts : (p q : ℕ × ℕ) → same_pair p q ≡ true → (p.0 ≡ q.0) × (p.1 ≡ q.1)
pair_parts p q h = let parts = and_parts (nat_eq p.0 q.0) (nat_eq p.1 q.1) h in (eqb-true p.0 q.0 parts.0, eqb-true p.1 q.1 parts.1)

pair_same : (p q : ℕ × ℕ) → p ≡ q → same_pair p q ≡ true
pair_same p q e = and_from _ _ (eq-eqb p.0 q.0 (ap (λ (r : ℕ × ℕ). r.0) e)) (eq-eqb p.1 q.1 (ap (λ (r : ℕ × ℕ). r.1) e))

-- the edge of the node and a neighbour
edge_near : (me w b : ℕ) → same_pair (edge me w) (edge me b) ≡ nat_eq b w
edge_near me w b =
    both_ways _ _
    (λ h. let parts = pair_parts (edge me w) (edge me b) h in eq-eqb b w (omega (arith, parts.0, parts.1)))
    (λ h. pair_same (edge me w) (edge me b) (ap (edge me) (sym (eqb-true b w h))))

-- an edge of the node that is the one of a neighbour and its target is the neighbour's
edge_far : (me w b d : ℕ) → b ≢ me → same_pair (edge me w) (edge b d) ≡ true → nat_eq b w ≡ true
edge_far me w b d apart h =
    let parts = pair_parts (edge me w) (edge b d) h in eq-eqb b w (omega (arith, parts.0, parts.1, apart))

absorbed : (p q x : Bool) → (p ≡ true → q ≡ true) → (p || (q || x)) ≡ (q || x)
absorbed p q x h = grind arith

near_plain : (net : Network) (me w b : ℕ) → linked (with_edge net me b) me w ≡ (nat_eq b w || linked net me w)
near_plain net me w b = linked_with net me b me w ∙ ap (λ c. c || linked net me w) (edge_near me w b)

near_target : (net : Network) (me w b : ℕ) (o : Option ℕ) → b ≢ me → linked (with_target_edge (with_edge net me b) b o) me w ≡ (nat_eq b w || linked net me w)
near_target net me w b None apart = near_plain net me w b
near_target net me w b (Some d) apart =
    linked_with (with_edge net me b) b d me w
    ∙ ap (λ c. same_pair (edge me w) (edge b d) || c) (near_plain net me w b)
    ∙ absorbed _ _ _ (edge_far me w b d apart)

found_or : (b : Bool) (r : NodeRecord) (o : Option NodeRecord) → (b || is_some o) ≡ is_some (cond b (Some r) o)
found_or true r o = refl
found_or false r o = refl

pub star_linked : (size me before : ℕ) (rows : List NodeRecord) (w : ℕ) → AreRows size me before rows → linked (star_network size me rows) me w ≡ is_some (record_of rows w)
star_linked size me before [] w good = contains-empty (edge me w)
star_linked size me before (r ∷ rows) w good =
    near_target (star_network size me rows) me w r.node r.target good.0.apart
    ∙ ap (λ c. nat_eq r.node w || c) (star_linked size me r.node rows w good.1)
    ∙ found_or (nat_eq r.node w) r (record_of rows w)

still_target : (net : Network) (a : ℕ) (o : Option ℕ) (c d : ℕ) → IsTrue (linked net c d) → IsTrue (linked (with_target_edge net a o) c d)
still_target net a None c d h = h
still_target net a (Some w) c d h = linked_with net a w c d ∙ or_right _ _ h

new_target : (net : Network) (a : ℕ) (o : Option ℕ) (d : ℕ) → o ≡ Some d → IsTrue (linked (with_target_edge net a o) a d)
new_target net a None d e = absurd (none-some d e)
new_target net a (Some w) d e = linked_with net a w a d ∙ or_left _ _ (pair_same (edge a d) (edge a w) (ap (edge a) (sym (same_Some w d e))))

-- each neighbour is linked with its target
pub star_far : (size me : ℕ) (rows : List NodeRecord) (v d : ℕ) (r : NodeRecord) → record_of rows v ≡ Some r → r.target ≡ Some d → IsTrue (linked (star_network size me rows) v d)
star_far size me [] v d r e at = absurd (none-some r e)
star_far size me (x ∷ rows) v d r e at =
    ⊎_elim
    (
    λ (here : nat_eq x.node v ≡ true). let same : x ≡ r = same_Some _ _ (sym (cond-true _ _ _ here) ∙ e) in
    subst (λ n. IsTrue (linked (star_network size me (x ∷ rows)) n d)) (eqb-true x.node v here)
    (new_target (with_edge (star_network size me rows) me x.node) x.node x.target d (ap (λ (y : NodeRecord). y.target) same ∙ at))
    )
    (
    λ (other : nat_eq x.node v ≡ false). still_target (with_edge (star_network size me rows) me x.node) x.node x.target v d
    (linked_with (star_network size me rows) me x.node v d ∙ or_right _ _ (star_far size me rows v d r (sym (cond-false _ _ _ other) ∙ e) at))
    )
    (cases_Bool (nat_eq x.node v))

-- ---- its registers

-- what a star is made of
pub record IsMade (size : ℕ) (own : NodeRecord) (around : List NodeRecord) : Type 0 where
  pub low : 1 ≤ own.node
  pub high : own.node ≤ size
  pub rows : AreRows size own.node 0 around
  pub points : (w : ℕ) → own.target ≡ Some w → IsTrue (is_some (record_of around w))

-- no name above the size has a record
none_past : (size : ℕ) (own : NodeRecord) (around : List NodeRecord) (v : ℕ) → IsMade size own around → size < v → record_in own around v ≡ None
none_past size own around v made past =
    let high = made.high in
    cond-false _ _ _ (ne_eqb own.node v (λ same. omega arith))
    ∙ ⊎_elim
    (λ none. none)
    (λ some. let found = found_row size own.node 0 around v some.0 made.rows some.1 in absurd (omega (arith, found.2)))
    (option_cases (record_of around v))

pub star_pointer : (size : ℕ) (own : NodeRecord) (around : List NodeRecord) (v : ℕ) → IsMade size own around → pointer (star_of size own around) v ≡ target_found (record_in own around v)
star_pointer size own around v made =
    ⊎_elim
    (λ (past : size < v). get_or_past _ v None (let len = length-map-range_with_len (λ x. target_found (record_in own around x)) 0 (size + 1) in omega (arith, len)) ∙ sym (ap target_found (none_past size own around v made past)))
    (λ (within : v ≤ size). get_or-map-range_with_len (λ x. target_found (record_in own around x)) 0 (size + 1) v v None (omega arith) (omega arith))
    (cases_lt size v)

pub star_flag : (size : ℕ) (own : NodeRecord) (around : List NodeRecord) (v : ℕ) → IsMade size own around → flag (star_of size own around) v ≡ flag_in (record_in own around v)
star_flag size own around v made =
    ⊎_elim
    (λ (past : size < v). get_or_past _ v false (let len = length-map-range_with_len (λ x. flag_in (record_in own around x)) 0 (size + 1) in omega (arith, len)) ∙ sym (ap flag_in (none_past size own around v made past)))
    (λ (within : v ≤ size). get_or-map-range_with_len (λ x. flag_in (record_in own around x)) 0 (size + 1) v v false (omega arith) (omega arith))
    (cases_lt size v)

-- whose record it is
in_cases : (own : NodeRecord) (around : List NodeRecord) (v : ℕ) (r : NodeRecord) → record_in own around v ≡ Some r → ((own.node ≡ v) × (own ≡ r)) ⊎ (record_of around v ≡ Some r)
in_cases own around v r e =
    ⊎_elim
    (λ (here : nat_eq own.node v ≡ true). inl (eqb-true own.node v here, same_Some _ _ (sym (cond-true _ _ _ here) ∙ e)))
    (λ (other : nat_eq own.node v ≡ false). inr (sym (cond-false _ _ _ other) ∙ e))
    (cases_Bool (nat_eq own.node v))

target_some : (o : Option NodeRecord) (w : ℕ) → target_found o ≡ Some w → (r : NodeRecord) × (o ≡ Some r) × (r.target ≡ Some w)
target_some None w e = absurd (none-some w e)
target_some (Some r) w e = (r, refl, e)

flag_some : (o : Option NodeRecord) → IsTrue (flag_in o) → (r : NodeRecord) × (o ≡ Some r)
flag_some None e = absurd (true≢false (sym e))
flag_some (Some r) e = (r, refl)

star_points_near : (size : ℕ) (own : NodeRecord) (around : List NodeRecord) (v w : ℕ) → IsMade size own around → pointer (star_of size own around) v ≡ Some w → IsTrue (linked (star_network size own.node around) v w)
star_points_near size own around v w made e =
    let at = target_some (record_in own around v) w (sym (star_pointer size own around v made) ∙ e) in
    ⊎_elim
    (
    λ here. subst (λ n. IsTrue (linked (star_network size own.node around) n w)) here.0
    (star_linked size own.node 0 around w made.rows ∙ made.points w (ap (λ (r : NodeRecord). r.target) here.1 ∙ at.2))
    )
    (λ there. star_far size own.node around v w at.0 there at.2)
    (in_cases own around v at.0 at.1)

star_flagged_has : (size : ℕ) (own : NodeRecord) (around : List NodeRecord) (v : ℕ) → IsMade size own around → IsTrue (flag (star_of size own around) v) → IsTrue (present (star_network size own.node around) v)
star_flagged_has size own around v made h =
    let at = flag_some (record_in own around v) (sym (star_flag size own around v made) ∙ h) in
    let low = made.low in
    let high = made.high in
    ⊎_elim
    (λ here. star_has size own.node around v (omega (arith, here.0)) (omega (arith, here.0)))
    (λ there. let found = found_row size own.node 0 around v at.0 made.rows there in star_has size own.node around v (omega (arith, found.1)) found.2)
    (in_cases own around v at.0 at.1)

pub star_is_state : (size : ℕ) (own : NodeRecord) (around : List NodeRecord) → IsMade size own around → IsState (star_of size own around)
star_is_state size own around made = record {
  is_network = star_is_network size own.node 0 around made.low made.high made.rows;
  pointers_len = length-map-range_with_len _ 0 (size + 1) ∙ ap (λ n. n + 1) (sym (size_star size own.node around));
  flags_len = length-map-range_with_len _ 0 (size + 1) ∙ ap (λ n. n + 1) (sym (size_star size own.node around));
  neighbourly = λ v. if_some_from (pointer (star_of size own around) v) (λ w. IsTrue (linked (star_network size own.node around) v w)) (λ w e. star_points_near size own around v w made e);
  flagged_present = λ v h. star_flagged_has size own around v made h;
}

-- ---- what it shows

star_neighbours : (size : ℕ) (own : NodeRecord) (around : List NodeRecord) → IsMade size own around → neighbours (star_network size own.node around) own.node ≡ names_of around
star_neighbours size own around made =
    neighbours_range (star_network size own.node around) own.node (star_is_network size own.node 0 around made.low made.high made.rows)
    ∙ ap (λ n. filter (linked (star_network size own.node around) own.node) (range_with_len 1 n)) (size_star size own.node around)
    ∙ filter_agree (linked (star_network size own.node around) own.node) (has (names_of around)) (λ w. star_linked size own.node 0 around w made.rows ∙ sym (has_name around w)) (range_with_len 1 size)
    ∙ part_of_names size (names_of around) (names_increase size own.node 0 around made.rows) (λ w h. within w (option_cases (record_of around w)) (sym (has_name around w) ∙ h))
  where
    within : (w : ℕ) → (record_of around w ≡ None) ⊎ ((r : NodeRecord) × (record_of around w ≡ Some r)) → is_some (record_of around w) ≡ true → (1 ≤ w) × (w ≤ size)
    within w (inl none) h = absurd (true≢false (sym h ∙ ap is_some none))
    within w (inr (r, some)) h = let found = found_row size own.node 0 around w r made.rows some in (omega (arith, found.1), found.2)

record_same : (s : State) (r : NodeRecord) → pointer s r.node ≡ r.target → flag s r.node ≡ r.flagged → node_record_at s r.node ≡ r
record_same s r p f = λ i. record { node = r.node; target = p i; flagged = f i }

star_itself : (size : ℕ) (own : NodeRecord) (around : List NodeRecord) → IsMade size own around → node_record_at (star_of size own around) own.node ≡ own
star_itself size own around made =
    let mine : record_in own around own.node ≡ Some own = cond-true _ _ _ (eq-eqb own.node own.node refl) in
    record_same (star_of size own around) own (star_pointer size own around own.node made ∙ ap target_found mine) (star_flag size own around own.node made ∙ ap flag_in mine)

star_other : (size : ℕ) (own : NodeRecord) (around : List NodeRecord) (r : NodeRecord) → IsMade size own around → record_of around r.node ≡ Some r → node_record_at (star_of size own around) r.node ≡ r
star_other size own around r made e =
    let found = found_row size own.node 0 around r.node r made.rows e in
    let its : record_in own around r.node ≡ Some r = cond-false _ _ _ (ne_eqb own.node r.node (λ same. found.3 (sym same))) ∙ e in
    record_same (star_of size own around) r (star_pointer size own around r.node made ∙ ap target_found its) (star_flag size own around r.node made ∙ ap flag_in its)

star_others : (size : ℕ) (own : NodeRecord) (around rows : List NodeRecord) → IsMade size own around → AllByRecursion (λ r. record_of around r.node ≡ Some r) rows → map (node_record_at (star_of size own around)) (names_of rows) ≡ rows
star_others size own around [] made found = refl
star_others size own around (r ∷ rows) made found =
    ap₂ (λ x xs. x ∷ xs) (star_other size own around r made found.0) (star_others size own around rows made found.1)

pub star_shows : (size : ℕ) (own : NodeRecord) (around : List NodeRecord) → IsMade size own around → ShowsAtNode (star_of size own around) own around
star_shows size own around made = record {
  is_state = star_is_state size own around made;
  here = star_has size own.node around own.node made.low made.high;
  itself = sym (star_itself size own around made);
  others = sym (ap (map (node_record_at (star_of size own around))) (star_neighbours size own around made) ∙ star_others size own around around made (each_found size own.node 0 around made.rows));
}

-- what has no fault is shown
points_near : (around : List NodeRecord) (o : Option ℕ) → own_fault around o ≡ None → (w : ℕ) → o ≡ Some w → IsTrue (is_some (record_of around w))
points_near around o e w at = grind arith

pub shown_without_fault : (own : NodeRecord) (around : List NodeRecord) → 1 ≤ own.node → AllByRecursion (λ r. IfSome r.target (λ w. 1 ≤ w)) around → first_fault own around ≡ None → ShowsAtNode (star own around) own around
shown_without_fault own around low named e =
    let parts = neither (rows_fault own.node 0 around) (own_fault around own.target) e in
    star_shows (max own.node (greatest_in around)) own around (record {
      low = low;
      high = omega arith;
      rows = rows_are (max own.node (greatest_in around)) own.node 0 around parts.0 named (omega arith);
      points = points_near around own.target parts.1;
    })
