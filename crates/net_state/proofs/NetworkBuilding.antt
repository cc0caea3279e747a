-- Networks made line by line: what each name, each edge and each pair of registers adds.
use Rattle.net_state.proofs.Prelude.{map-map, map-id, ◌≡◌, ℕ, ◌+◌, ◌<◌, ◌≤◌, suc, zero, Bool, true, false, not, cond, ◌&&◌, List, ◌∷◌, ◌++◌, length, map, filter, get_or, take, Option, None, Some, IsTrue, nat_eq, leb, refl, sym, ap, ap₂, ◌∙◌, min, max, subst, arith, add-one, tied_itself, range_with_len, list_any, IsStrictlyIncreasing, eq_by_cmp, ordering_reverse, is_eq, Less, Greater, true≢false, eq-eqb, ne_eqb, false_from_ne_true, leb-true, and_parts, not-false, or_from, length-map, length-take, take_more, list_any_at, NodeRecord, UnknownNode, NotNeighbour, Network, pair_cmp, edge, present, linked, names, edge_list, edge_count, with_edge, edgeless_with, first_names, State, IsState, pointer, after_point, after_flag, link_refusal, point_refusal, node_record_at, node_records, pair_total, present_range, linked_pair, pointer_linked, cond-none, pointer-with_pointer_other, pointer-with_pointer_same, flag-with_flag_other, flag-with_flag_same, has, first_names_at, part_of_names, NamesRise, EdgesAscend, map_push, names_present, in_names, or_parts, AllPairs-from_increasing, nil_from_length, IsIn, list_any_none, get_or-take, filter_passes, get_or-map, map_more, take-map, get_or_default, []}
use Rattle.std.specs.FinMap as finmap
use Rattle.machine_laws.proofs.Edges as edges

-- the names of these places
abbrev pub names_in : List NodeRecord → List ℕ
names_in nodes = map (λ p. p.node) nodes

increasing : (u : ℕ) (nodes : List NodeRecord) → NamesRise u nodes → IsStrictlyIncreasing (names_in nodes)
increasing u [] up k inside = absurd (omega arith)
increasing u (p ∷ []) up k inside = absurd (omega arith)
increasing u (p ∷ q ∷ nodes) up zero inside = up.1.0
increasing u (p ∷ q ∷ nodes) up (suc k) inside =
    let h = increasing p.node (q ∷ nodes) up.1 k (omega arith) in simp add-one (simp add-one at h)

-- a name of an ascending list does not occur before its index
pub not_before : (nodes : List ℕ) (i w : ℕ) → IsStrictlyIncreasing nodes → i < length nodes → w ≡ get_or nodes i w → list_any (nat_eq w) (take i nodes) ≡ false
not_before nodes i w rising inside is =
    list_any_none (nat_eq w) (take i nodes) (λ k d there.
    let lt : k < i = omega (arith, length-take i nodes) in
    let below : get_or nodes k w < get_or nodes i w = AllPairs-from_increasing nodes rising k i w lt inside in
    let at : get_or (take i nodes) k d ≡ get_or nodes k w = get_or-take i nodes k d lt ∙ get_or_default nodes k d w (omega arith) in
    ne_eqb w (get_or (take i nodes) k d) (λ same. omega (arith, below, at, is, same)))

-- the next name is none of those before
pub absent_next : (nodes : List NodeRecord) (k : ℕ) (place : NodeRecord) → NamesRise 0 nodes → k < length nodes → place ≡ get_or nodes k place → has (names_in (take k nodes)) place.node ≡ false
absent_next nodes k place up within is =
    ap (λ l. has l place.node) (sym (take-map (λ p. p.node) k nodes))
    ∙ not_before (names_in nodes) k place.node (increasing 0 nodes up) (omega (arith, within, length-map nodes (λ p. p.node))) (ap (λ p. p.node) is ∙ sym (get_or-map (λ p. p.node) nodes k place place.node within))

-- the names that are nodes, if these are the names
pub names_are : (net : Network) (nodes : List NodeRecord) → NamesRise 0 nodes → ((x : ℕ) → present net x ≡ has (names_in nodes) x) → names net ≡ names_in nodes
names_are net nodes up here =
    ap (λ (p : ℕ → Bool). filter p (range_with_len 1 net.size)) (λ i x. here x i)
    ∙ part_of_names net.size (names_in nodes) (increasing 0 nodes up) (λ w h. present_range net w (here w ∙ h))

pub nobody_there : (size v : ℕ) → present (edgeless_with size 0) v ≡ false
nobody_there size v = false_from_ne_true (present (edgeless_with size 0) v) (λ h.
    let range = present_range (edgeless_with size 0) v h in
    let row : get_or (first_names size 0) v false ≡ true = (and_parts _ _ (and_parts _ _ h).1).1 in
    let at = and_parts (leb 1 v) (leb v 0) (sym (first_names_at size 0 v range.1) ∙ row) in
    absurd (omega (arith, range.0, leb-true v 0 at.1)))

-- ---- what a state lists

pub place_listed : (s : State) (nodes : List NodeRecord) (k : ℕ) (place : NodeRecord) → node_records s ≡ nodes → k < length nodes → place ≡ get_or nodes k place → IsTrue (present s.network place.node) × (place ≡ node_record_at s place.node)
place_listed s nodes k place same within is =
    let v = get_or (names s.network) k 0 in
    let inside : k < length (names s.network) = omega (arith, within, ap length same, length-map (names s.network) (node_record_at s)) in
    let e : place ≡ node_record_at s v = is ∙ ap (λ l. get_or l k place) (sym same) ∙ get_or-map (node_record_at s) (names s.network) k 0 place inside in
    subst (λ (q : NodeRecord). IsTrue (present s.network q.node) × (q ≡ node_record_at s q.node)) (sym e) (filter_passes (present s.network) (range_with_len 1 s.network.size) k 0 inside, refl)

pub not_beyond : (s : State) (nodes : List NodeRecord) (k : ℕ) (place : NodeRecord) (size : ℕ) → k < length nodes → place ≡ get_or nodes k place → size < place.node → s.network.size ≡ size → node_records s ≡ nodes → ⊥
not_beyond s nodes k place size within is above same listed =
    omega (arith, (present_range s.network place.node (place_listed s nodes k place listed within is).0).1, above, same)

-- the same names are the same nodes
present_in : (net more : Network) → names net ≡ names more → (v : ℕ) → present net v ≡ true → present more v ≡ true
present_in net more same v here = names_present more v (subst (IsIn v) same (in_names net v here))

pub names_same : (net more : Network) → net.size ≡ more.size → net.here ≡ more.here → names net ≡ names more
names_same net more size here i =
    names (record { size = size i; here = here i; edges = net.edges })

-- ---- edges

abbrev pub AllLess : List (ℕ × ℕ) → ℕ × ℕ → Type 0
AllLess [] e = Unit {0}
AllLess (q ∷ qs) e = (pair_cmp q e ≡ Less) × AllLess qs e

pub edges_below : (u : ℕ × ℕ) (es : List (ℕ × ℕ)) (k : ℕ) (d : ℕ × ℕ) → EdgesAscend u es → k < length es → (pair_cmp u (get_or es k d) ≡ Less) × AllLess (take k es) (get_or es k d)
edges_below u [] k d up within = absurd (omega arith)
edges_below u (q ∷ es) zero d up within = (up.0, tt)
edges_below u (q ∷ es) (suc k) d up within =
    let more = edges_below q es k d up.1 (omega (arith, within)) in
    (pair_total.trans u q (get_or es k d) up.0 more.0, (more.0, more.1))

greater : (q e : ℕ × ℕ) → pair_cmp q e ≡ Less → pair_cmp e q ≡ Greater
greater q e less = pair_total.antisymm e q ∙ ap ordering_reverse less

put_last : (es : List ((ℕ × ℕ) × Unit {0})) (e : ℕ × ℕ) → AllLess (map (λ x. x.0) es) e → map (λ x. x.0) (finmap.put pair_cmp e tt es) ≡ map (λ x. x.0) es ++ e ∷ []
put_last [] e all = refl
put_last (q ∷ es) e all = rw (greater q.0 e all.0) (ap (λ l. q.0 ∷ l) (put_last es e all.1))

not_there : (qs : List (ℕ × ℕ)) (e : ℕ × ℕ) → AllLess qs e → list_any (eq_by_cmp pair_cmp e) qs ≡ false
not_there [] e all = refl
not_there (q ∷ qs) e all = or_from _ _ (ap is_eq (greater q e all.0)) (not_there qs e all.1)

low_pair : (a b : ℕ) → a < b → edge a b ≡ (a, b)
low_pair a b lt = λ i. ((let low : min a b ≡ a = omega arith in low) i, (let high : max a b ≡ b = omega arith in high) i)

-- an edge at its place
pub may_link : (net : Network) (es : List (ℕ × ℕ)) (k : ℕ) (e : ℕ × ℕ) → edge_list net ≡ take k es → EdgesAscend (0, 0) es → k < length es → length es ≤ 1048576 → e ≡ get_or es k e → e.0 < e.1 → present net e.0 ≡ true → present net e.1 ≡ true → link_refusal net e.0 e.1 ≡ None
may_link net es k e listed up within few is lt low high =
    let all : AllLess (edge_list net) e = subst (λ l. AllLess l e) (sym listed) (subst (AllLess (take k es)) (sym is) (edges_below (0, 0) es k e up within).1) in
    let fresh : linked net e.0 e.1 ≡ false = linked_pair net e.0 e.1 lt ∙ finmap.contains_key-keys net.edges e ∙ not_there (edge_list net) e all in
    let count : edge_count net ≡ length (take k es) = finmap.len-entries net.edges ∙ sym (length-map (finmap.entries net.edges) (λ x. x.0)) ∙ ap length listed in
    let short = length-take k es in
    let apart = ne_eqb e.0 e.1 (λ same. omega (arith, lt, same)) in
    let few = false_from_ne_true _ (λ h. let le = leb-true 1048576 (edge_count net) h in omega (arith, le, count, short, within, few)) in
    grind arith

pub list_more : (net : Network) (es : List (ℕ × ℕ)) (k : ℕ) (e : ℕ × ℕ) → edge_list net ≡ take k es → EdgesAscend (0, 0) es → k < length es → e ≡ get_or es k e → e.0 < e.1 → edge_list (with_edge net e.0 e.1) ≡ take (k + 1) es
list_more net es k e listed up within is lt =
    let all : AllLess (edge_list net) e = subst (λ l. AllLess l e) (sym listed) (subst (AllLess (take k es)) (sym is) (edges_below (0, 0) es k e up within).1) in
    ap (λ p. finmap.keys (finmap.insert net.edges p tt)) (low_pair e.0 e.1 lt)
    ∙ ap (map (λ x. x.0)) (finmap.entries-insert pair_total net.edges e tt)
    ∙ put_last (finmap.entries net.edges) e all
    ∙ ap₂ (λ l p. l ++ p ∷ []) listed is
    ∙ sym (take_more es k e within)

-- an edge of a state is between nodes
edge_listed : (s : State) (es : List (ℕ × ℕ)) (k : ℕ) (e : ℕ × ℕ) → edge_list s.network ≡ es → k < length es → e ≡ get_or es k e → IsTrue (finmap.contains_key s.network.edges e)
edge_listed s es k e same within is =
    finmap.contains_key-keys s.network.edges e ∙ ap (list_any (eq_by_cmp pair_cmp e)) same
    ∙ list_any_at (eq_by_cmp pair_cmp e) es k e within (ap is_eq (ap (pair_cmp e) (sym is) ∙ tied_itself pair_total e))

-- so its ends are nodes of each network of the same names
pub ends_present : (s : State) (net : Network) (es : List (ℕ × ℕ)) (k : ℕ) (e : ℕ × ℕ) → IsState s → names s.network ≡ names net → edge_list s.network ≡ es → k < length es → e ≡ get_or es k e → (present net e.0 ≡ true) × (present net e.1 ≡ true)
ends_present s net es k e good same listed within is =
    let there = edge_listed s es k e listed within is in
    (present_in s.network net same e.0 (good.is_network.low_present e.0 e.1 there), present_in s.network net same e.1 (good.is_network.high_present e.0 e.1 there))

-- ---- registers

written_before : (s u : State) (v : ℕ) (some : List NodeRecord) → ((x : ℕ) → (x ≡ v → ⊥) → node_record_at u x ≡ node_record_at s x) → has (names_in some) v ≡ false → map (node_record_at u) (names_in some) ≡ map (node_record_at s) (names_in some)
written_before s u v [] kept absent = refl
written_before s u v (p ∷ some) kept absent =
    let parts = or_parts (nat_eq v p.node) (has (names_in some) v) absent in
    ap₂ (λ q l. q ∷ l) (kept p.node (λ same. true≢false (sym (eq-eqb v p.node (sym same)) ∙ parts.0))) (written_before s u v some kept parts.1)

pub written_more : (s : State) (nodes : List NodeRecord) (k : ℕ) (place : NodeRecord) → IsState s → NamesRise 0 nodes → k < length nodes → place ≡ get_or nodes k place → place.node ≤ s.network.size → map (node_record_at s) (names_in (take k nodes)) ≡ take k nodes → map (node_record_at (after_flag (after_point s place.node place.target) place.node place.flagged)) (names_in (take (k + 1) nodes)) ≡ take (k + 1) nodes
written_more s nodes k place good up within is high so_far =
    let u = after_flag (after_point s place.node place.target) place.node place.flagged in
    let v = place.node in
    let plen = good.pointers_len in
    let flen = good.flags_len in
    let kept : (x : ℕ) → (x ≡ v → ⊥) → node_record_at u x ≡ node_record_at s x = λ x apart i. record {
      node = x;
      target = pointer-with_pointer_other s.registers v place.target x apart i;
      flagged = flag-with_flag_other s.registers v place.flagged x apart i;
    } in
    let here : node_record_at u v ≡ place = λ i. record {
      node = v;
      target = pointer-with_pointer_same s.registers v place.target (omega (arith, plen, high)) i;
      flagged = flag-with_flag_same s.registers v place.flagged (omega (arith, flen, high)) i;
    } in
    ap (map (node_record_at u)) (map_more (λ p. p.node) nodes k place within)
    ∙ map_push (node_record_at u) (names_in (take k nodes)) (get_or nodes k place).node
    ∙ ap₂ (λ l p. l ++ p ∷ []) (written_before s u v (take k nodes) kept (absent_next nodes k place up within is) ∙ so_far) (ap (λ p. node_record_at u p.node) (sym is) ∙ here ∙ is)
    ∙ sym (take_more nodes k place within)

pointer_none : (net : Network) (v : ℕ) (o : Option ℕ) → present net v ≡ true → ((w : ℕ) → o ≡ Some w → (present net w ≡ true) × (linked net v w ≡ true)) → point_refusal net v o ≡ None
pointer_none net v None here near = ap (λ b. cond b None (Some UnknownNode)) here
pointer_none net v (Some w) here near =
    let at = near w refl in
    λ i. cond (not (here i && at.0 i)) (Some UnknownNode) (cond (at.1 i) None (Some NotNeighbour))

-- a pointer of a state may be written there
pub pointer_allowed : (s : State) (net : Network) (nodes : List NodeRecord) (k : ℕ) (place : NodeRecord) → IsState s → names s.network ≡ names net → edge_list s.network ≡ edge_list net → node_records s ≡ nodes → k < length nodes → place ≡ get_or nodes k place → point_refusal net place.node place.target ≡ None
pointer_allowed s net nodes k place good same joined listed within is =
    let at = place_listed s nodes k place listed within is in
    let target : place.target ≡ pointer s place.node = ap (λ (p : NodeRecord). p.target) at.1 in
    pointer_none net place.node place.target (present_in s.network net same place.node at.0) (λ w e.
    let near = pointer_linked s place.node w good (sym target ∙ e) in
    let q = edge place.node w in
    let kept : linked net place.node w ≡ linked s.network place.node w = finmap.contains_key-keys net.edges q ∙ ap (list_any (eq_by_cmp pair_cmp q)) (sym joined) ∙ sym (finmap.contains_key-keys s.network.edges q) in
    (present_in s.network net same w (edges.linked_present s.network place.node w good.is_network near), kept ∙ near))

-- a pointer may be written only at a node
pub allowed_present : (net : Network) (v : ℕ) (o : Option ℕ) → point_refusal net v o ≡ None → present net v ≡ true
allowed_present net v None e = grind arith
allowed_present net v (Some w) e =
    (and_parts (present net v) (present net w) (not-false _ (cond-none (not (present net v && present net w)) UnknownNode _ e).0)).0

-- the names of a state whose nodes are listed
pub names_of : (s : State) (nodes : List NodeRecord) → node_records s ≡ nodes → names s.network ≡ names_in nodes
names_of s nodes same = sym (map-map (λ p. p.node) (node_record_at s) (names s.network) ∙ map-id (names s.network)) ∙ ap names_in same

pub nothing_listed : finmap.keys (finmap.empty {K = ℕ × ℕ} {X = Unit {0}} {R = pair_cmp}) ≡ []
nothing_listed = ap (map (λ e. e.0)) (nil_from_length _ (sym (finmap.len-entries _) ∙ finmap.len-empty pair_cmp (Unit {0})))
