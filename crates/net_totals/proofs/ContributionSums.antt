-- The sums of the contributions if no name is stale.
use Rattle.net_totals.proofs.Prelude.{◌≡◌, ℕ, suc, ◌+◌, ◌<◌, ◌≤◌, Bool, true, false, cond, not, ◌&&◌, List, [], ◌∷◌, length, get_or, count_by, sum_by, filter, filter_map, Option, None, Some, is_some, option_and_then, IsTrue, nat_eq, take, refl, sym, ap, ap₂, ◌∙◌, arith, range_with_len, cons_option, and_parts, eq-eqb, false_from_ne_true, true≢false, sum_by_more, sum_by-cons, is_in, members, summed, EdgeStance, Shut, Courted, Free, are_open, end_at, open_edges, is_courted, Network, IsNetwork, names, present, linked, neighbours, edge_list, mutual_pairs, pair_above, State, IsState, is_at, pointer, points, married, has_suitor, linked_present, no_suitor, pointer_linked, points_true, ends_open, at_once, closing_by_targets, count_agree, count_filter, in_names, names_without_repeats, IsLoneSuitor, edges_agree, Contribution, answered_by, closing_at, stance_of, is_lower_end, no_contribution, contribution_at}
use mir.Val.{bool_byte}
use Rattle.net_totals.proofs.NodeScans.{names_sum, pairs_scanned}

-- ---- lower ends

-- entry 0 is unused
nobody_points : (s : State) → IsState s → is_lower_end s.registers 0 ≡ false
nobody_points s good = at_null (pointer s 0) refl
  where
    at_null : (o : Option ℕ) → pointer s 0 ≡ o → is_lower_end s.registers 0 ≡ false
    at_null None e = ap (λ o. is_some (pair_above 0 (option_and_then (λ w. cond (points s.registers w 0) (Some w) None) o))) e
    at_null (Some w) e = absurd (true≢false (sym (linked_present s.network 0 w good.is_network (pointer_linked s 0 w good e))))

-- the lower ends kept are those of the state
pub lower_members : (s : State) (lower : List Bool) → IsState s → length lower ≡ s.network.size + 1 → ((v : ℕ) → is_in lower v ≡ is_lower_end s.registers v) → members lower ≡ filter (is_lower_end s.registers) (range_with_len 1 s.network.size)
lower_members s lower good places same =
    let count : length lower ≡ suc s.network.size = omega (arith, places) in
    ap (λ n. filter (is_in lower) (range_with_len 0 n)) count
    ∙ (λ i. filter (λ v. same v i) (range_with_len 0 (suc s.network.size)))
    ∙ ap (λ b. cond b (0 ∷ filter (is_lower_end s.registers) (range_with_len 1 s.network.size)) (filter (is_lower_end s.registers) (range_with_len 1 s.network.size))) (nobody_points s good)

-- as many pass as are found
found_passed : {X : Type 0} (f : ℕ → Option X) (xs : List ℕ) → length (filter (λ v. is_some (f v)) xs) ≡ length (filter_map f xs)
found_passed {X = X} f [] = refl
found_passed {X = X} f (x ∷ xs) = step (f x) (found_passed f xs)
  where
    step : (o : Option X) → length (filter (λ v. is_some (f v)) xs) ≡ length (filter_map f xs) → length (cond (is_some o) (x ∷ filter (λ v. is_some (f v)) xs) (filter (λ v. is_some (f v)) xs)) ≡ length (cons_option o (filter_map f xs))
    step None rest = rest
    step (Some y) rest = ap suc rest

pub lower_count : (s : State) (lower : List Bool) → IsState s → length lower ≡ s.network.size + 1 → ((v : ℕ) → is_in lower v ≡ is_lower_end s.registers v) → length (members lower) ≡ length (mutual_pairs s)
lower_count s lower good places same =
    ap length (lower_members s lower good places same)
    ∙ found_passed (λ v. pair_above v (answered_by s.registers v)) (range_with_len 1 s.network.size)
    ∙ sym (ap length (pairs_scanned s good))

-- ---- pointers that close an edge

pub few_bytes : (b : Bool) → bool_byte b ≤ 1
few_bytes true = omega arith
few_bytes false = omega arith

-- one more neighbour that passes the test, or does not
pub counted_more : (p : ℕ → Bool) (xs : List ℕ) (i x count one : ℕ) → i < length xs → x ≡ get_or xs i x → count ≡ count_by p (take i xs) → one ≡ cond (p x) 1 0 → count + one ≡ count_by p (take (i + 1) xs)
counted_more p xs i x count one within is so_far passes =
    ap₂ ◌+◌ so_far (passes ∙ ap (λ y. cond {A = ℕ} (p y) 1 0) is) ∙ sym (sum_by_more (λ y. cond (p y) 1 0) xs i x within)

none_passes : (p : ℕ → Bool) (xs : List ℕ) → ((x : ℕ) → p x ≡ false) → count_by p xs ≡ 0
none_passes p [] none = refl
none_passes p (x ∷ xs) none =
    let whole = sum_by-cons (λ y. cond (p y) 1 0) x xs in
    let rest = none_passes p xs none in
    let first = none x in
    grind arith

-- none, at a node that has no suitor
pub no_closing : (s : State) (closes : ℕ → Bool) (v : ℕ) → IsState s → has_suitor s v ≡ false → closing_at closes s v ≡ 0
no_closing s closes v good none =
    none_passes (λ x. points s.registers x v && closes x) (neighbours s.network v) (λ x.
    ap (λ b. b && closes x) (false_from_ne_true (points s.registers x v) (λ at. no_suitor s v x good none (points_true s x v at))))

eq_back : (a b : ℕ) → nat_eq a b ≡ nat_eq b a
eq_back a b = grind arith

-- the one suitor's, at a node that has one
pub lone_closing : (s : State) (closes : ℕ → Bool) (v w : ℕ) → IsLoneSuitor s v w → closing_at closes s v ≡ cond (points s.registers w v && closes w) 1 0
lone_closing s closes v w lone =
    count_filter (λ x. points s.registers x v && closes x) (linked s.network v) (names s.network)
    ∙ count_agree (λ x. linked s.network v x && (points s.registers x v && closes x)) (λ x. is_at (Some w) x && closes x) each (names s.network)
    ∙ at_once (Some w) closes (names s.network) (in_names s.network w lone.here) (names_without_repeats s.network)
    ∙ ap (λ b. cond b 1 0) (sym (ap (λ b. b && closes w) here))
  where
    each : (x : ℕ) → (linked s.network v x && (points s.registers x v && closes x)) ≡ (is_at (Some w) x && closes x)
    each x =
        let alone = lone.alone x in
        let back = eq_back x w in
        grind arith

    here : points s.registers w v ≡ true
    here = (and_parts (linked s.network v w) (points s.registers w v) (lone.alone w ∙ eq-eqb w w refl)).1

-- ---- sums

-- the names' contributions sum to those of the nodes, if entry 0 is unused
pub node_sum : (f : Contribution → ℕ) (part : ℕ → ℕ) (net : Network) (each : List Contribution) → length each ≡ net.size + 1 → ((v : ℕ) → f (contribution_at each v) ≡ cond (present net v) (part v) 0) → sum_by f each ≡ sum_by part (names net)
node_sum f part net each places told =
    summed f (λ v. cond (present net v) (part v) 0) net.size each no_contribution places (told 0) told ∙ sym (names_sum part net)

-- and the pointers that close an edge are those that are counted at their targets
pub closing_summed : (s : State) → IsState s → (closes : ℕ → Bool) → ((v : ℕ) → pointer s v ≡ None → closes v ≡ false) → (each : List Contribution) → length each ≡ s.network.size + 1 → ((v : ℕ) → (contribution_at each v).closing ≡ cond (present s.network v) (closing_at closes s v) 0) → sum_by (λ (it : Contribution). it.closing) each ≡ count_by closes (names s.network)
closing_summed s good closes null each places told =
    node_sum (λ (it : Contribution). it.closing) (closing_at closes s) s.network each places told ∙ closing_by_targets s good closes null

-- ---- edges

-- an edge as its ends make it is open as the charge counts it
open_alike : (m n courted_close a b : Bool) → are_open (cond m Shut (cond (courted_close && a) Courted Free)) (cond n Shut (cond (courted_close && b) Courted Free)) ≡ (not m && not n && not (courted_close && (a && b)))
open_alike m n c a b = grind arith

pub ends_alike : (courted_close : Bool) (s : State) (v w : ℕ) → are_open (stance_of courted_close s v) (stance_of courted_close s w) ≡ ends_open courted_close s (v, w)
ends_alike courted_close s v w = open_alike (married s v) (married s w) courted_close (is_courted s v) (is_courted s w)

-- if each node's stance is set, the open edges are those that the charge counts
pub turned_open : (courted_close : Bool) (s : State) (ends : List EdgeStance) → IsNetwork s.network → ((v : ℕ) → IsTrue (present s.network v) → end_at ends v ≡ stance_of courted_close s v) → open_edges s.network ends ≡ count_by (ends_open courted_close s) (edge_list s.network)
turned_open courted_close s ends good turned =
    edges_agree s.network good (λ e. are_open (end_at ends e.0) (end_at ends e.1)) (ends_open courted_close s) (λ a b here there. ap₂ are_open (turned a here) (turned b there) ∙ ends_alike courted_close s a b)
