-- Why a step's moves are paid by the charge: the part that is the same under all rules.
--
-- A pointer of a at b has hope as long as b may still answer it. A node seduces only where there is hope, and
-- gives up an unanswered pointer only where there is none; and hope ends in marriage only. So each pair of
-- nodes pays for the pointers written across it, and each node for its flag, however many nodes move at once.
-- An edge is closed for good, or by a pointer with hope. HsuHuangPairs and MannePairs show that for each table
-- of rules.
use Rattle.machine_laws.proofs.ChargePrelude.{◌≡◌, ℕ, ◌+◌, ◌*◌, ◌<◌, ◌≤◌, Bool, true, false, cond, not, ◌&&◌, ◌||◌, List, [], ◌∷◌, length, count_by, sum_by, Some, sym, subst, inl, inr, ◌⊎◌, arith, sum_by-cons, ap, ◌∙◌, Moved, linked, names, neighbours, edge_list, State, IsState, pointer, points, is_unanswered, linked_present, linked_back, refl, pointer_linked, points_from, is_at, ap₂, married, has_suitor, None, Option, married_some, married_from, suitor_some, suitor_from}
use Rattle.machine_laws.proofs.ListCounts.{IsIn, sum_le, sum_add, sum_agree, one_count}
use Rattle.machine_laws.proofs.Members.{in_names, in_kept, edges_contain}
use Rattle.machine_laws.proofs.EdgesByNodes.{by_both}
use Rattle.machine_laws.proofs.ClosedByPointers.{target_counted}
use Rattle.machine_laws.proofs.WritesOfSteps.{is_mover_in}

abbrev pub bit : Bool → ℕ
bit b = cond b 1 0

abbrev pub differs : Bool → Bool → Bool
differs a b = cond a (not b) b

-- ---- one pair

-- What a may do to its pointer at b, which was p and is p'; q and q' are b's pointer at a. a writes it if b
-- points at a, or with hope, and the edge was open; and gives it up without hope. Hope ends in marriage only.
pub record IsWrite (p p' q q' hope hope' closed closed' : Bool) : Type 0 where
  pub writes : p ≡ false → p' ≡ true → (closed ≡ false) × (((q ≡ true) × (q' ≡ false → hope' ≡ true)) ⊎ ((q ≡ false) × (q' ≡ false) × (hope ≡ true)))
  pub gives_up : p ≡ true → p' ≡ false → (q ≡ false) × (hope ≡ false)
  pub lasts : p' ≡ true → hope ≡ true → (hope' ≡ true) ⊎ (closed' ≡ true)

-- what an edge adds, by its pointers, their hope, and two reasons why it is closed for good
abbrev pub pair_charge : Bool → Bool → Bool → Bool → Bool → Bool → ℕ
pair_charge p q h k c z = 2 * bit (not (c || (p && h) || (q && k) || z)) + bit (p && not q) + bit (q && not p)

pub pair_pays : (p p' q q' h h' k k' c c' z z' d d' : Bool) → IsWrite p p' q q' h h' (c || z) (c' || z') → IsWrite q q' p p' k k' d d' → d ≡ (c || z) → d' ≡ (c' || z') → (p ≡ true → q ≡ true → c ≡ true) → (p' ≡ true → q' ≡ true → c' ≡ true) → ((c || z) ≡ true → (c' || z') ≡ true) → pair_charge p' q' h' k' c' z' + bit (differs p p') + bit (differs q q') ≤ pair_charge p q h k c z
pair_pays p p' q q' h h' k k' c c' z z' d d' a b was now pair pair' stays = grind arith

-- ---- the charge

-- what pointers say of married nodes and of suitors
pub record IsSeen (p : ℕ → Option ℕ) (m c : ℕ → Bool) : Type 0 where
  pub wed : (v : ℕ) → m v ≡ true → (w : ℕ) × (p v ≡ Some w) × (p w ≡ Some v)
  pub weds : (v w : ℕ) → p v ≡ Some w → p w ≡ Some v → m v ≡ true
  pub suited : (v : ℕ) → c v ≡ true → (u : ℕ) × (p u ≡ Some v)
  pub suits : (v u : ℕ) → p u ≡ Some v → c v ≡ true

pub seen : (s : State) → IsState s → IsSeen (pointer s) (married s) (has_suitor s)
seen s good = record { wed = married_some s; weds = λ v w. married_from s v w good; suited = suitor_some s; suits = λ v u. suitor_from s v u good }

-- v's pointer is at w, which does not point back
abbrev pub waits : State → ℕ → ℕ → Bool
waits s v w = points s.registers v w && not (points s.registers w v)

-- v's pointer at w is written or given up
abbrev pub turned : State → State → ℕ → ℕ → Bool
turned s s' v w = differs (points s.registers v w) (points s'.registers v w)

-- an unanswered pointer crosses one edge
pub waits_by_edges : (s : State) → IsState s → count_by (is_unanswered s) (names s.network) ≡ count_by (λ e. waits s e.0 e.1) (edge_list s.network) + count_by (λ e. waits s e.1 e.0) (edge_list s.network)
waits_by_edges s good =
    sym (sum_agree (λ v. count_by (waits s v) (neighbours s.network v)) (λ v. bit (is_unanswered s v)) (λ v. target_counted s good (λ w. not (points s.registers w v)) v) (names s.network)) ∙ by_both s.network good.is_network (waits s)

-- a pointer that is written or given up is counted at its edge
turn_counted : (s s' : State) → IsState s → (v w : ℕ) → linked s.network v w ≡ true → turned s s' v w ≡ true → 1 ≤ count_by (turned s s' v) (neighbours s.network v)
turn_counted s s' good v w near h = one_count (turned s s' v) (neighbours s.network v) w (in_kept (linked s.network v) w (names s.network) near (in_names s.network w (linked_present s.network w v good.is_network (linked_back s.network w v ∙ near)))) h

pub pointer_turns : (s s' : State) → IsState s → IsState s' → s'.network ≡ s.network → (v w : ℕ) → ((pointer s v ≡ Some w) × (pointer s' v ≡ None)) ⊎ ((pointer s v ≡ None) × (pointer s' v ≡ Some w)) → 1 ≤ count_by (turned s s' v) (neighbours s.network v)
pointer_turns s s' good good' same v w (inl (was, now)) = turn_counted s s' good v w (pointer_linked s v w good was) (ap₂ differs (points_from s v w was) (ap (λ o. is_at o w) now))
pointer_turns s s' good good' same v w (inr (was, now)) = turn_counted s s' good v w (subst (λ net. linked net v w ≡ true) same (pointer_linked s' v w good' now)) (ap₂ differs (ap (λ o. is_at o w) was) (points_from s' v w now))

sums_pay : {X : Type 0} (o o' w w' u u' t r : X → ℕ) (xs : List X) → ((x : X) → IsIn x xs → 2 * o' x + w' x + u' x + t x + r x ≤ 2 * o x + w x + u x) → 2 * sum_by o' xs + sum_by w' xs + sum_by u' xs + sum_by t xs + sum_by r xs ≤ 2 * sum_by o xs + sum_by w xs + sum_by u xs
sums_pay o o' w w' u u' t r [] h = omega arith
sums_pay o o' w w' u u' t r (x ∷ xs) h = grind (arith, sums_pay o o' w w' u u' t r xs (λ y there. h y (inr there)), h x (inl refl), sum_by-cons)

-- If each pair, node and mover is paid, the charge falls by the moves.
pub falls : (s s' : State) (moves : List Moved) (closed closed' : ℕ × ℕ → Bool) (node node' flips : ℕ → ℕ) → IsState s → IsState s' → s'.network ≡ s.network → length moves ≤ count_by (is_mover_in moves) (names s.network)
    → ((a b : ℕ) → a < b → 2 * bit (not (closed' (a, b))) + bit (waits s' a b) + bit (waits s' b a) + bit (turned s s' a b) + bit (turned s s' b a) ≤ 2 * bit (not (closed (a, b))) + bit (waits s a b) + bit (waits s b a))
    → ((v : ℕ) → node' v + flips v ≤ node v)
    → ((v : ℕ) → is_mover_in moves v ≡ true → 1 ≤ flips v + count_by (turned s s' v) (neighbours s.network v))
    → 2 * count_by (λ e. not (closed' e)) (edge_list s.network) + count_by (is_unanswered s') (names s.network) + sum_by node' (names s.network) + length moves ≤ 2 * count_by (λ e. not (closed e)) (edge_list s.network) + count_by (is_unanswered s) (names s.network) + sum_by node (names s.network)
falls s s' moves closed closed' node node' flips good good' same few pair nodes movers =
    let after = subst (λ net. count_by (is_unanswered s') (names net) ≡ count_by (λ e. waits s' e.0 e.1) (edge_list net) + count_by (λ e. waits s' e.1 e.0) (edge_list net)) same (waits_by_edges s' good') in
    let pairs = sums_pay (λ e. bit (not (closed e))) (λ e. bit (not (closed' e))) (λ e. bit (waits s e.0 e.1)) (λ e. bit (waits s' e.0 e.1)) (λ e. bit (waits s e.1 e.0)) (λ e. bit (waits s' e.1 e.0)) (λ e. bit (turned s s' e.0 e.1)) (λ e. bit (turned s s' e.1 e.0)) (edge_list s.network) (λ e there. pair e.0 e.1 (good.is_network.low_first e.0 e.1 (edges_contain s.network e there))) in
    let flags = sum_le (λ v. node' v + flips v) node (names s.network) (λ v there. nodes v) in
    let flagged = sum_add node' flips (names s.network) in
    let moved = sum_le (λ v. bit (is_mover_in moves v)) (λ v. flips v + count_by (turned s s' v) (neighbours s.network v)) (names s.network) (λ v there. paid (is_mover_in moves v) (flips v + count_by (turned s s' v) (neighbours s.network v)) (movers v)) in
    let turns = sum_add flips (λ v. count_by (turned s s' v) (neighbours s.network v)) (names s.network) in
    omega (arith, after, waits_by_edges s good, pairs, flags, flagged, moved, turns, by_both s.network good.is_network (turned s s'), few)
  where
    paid : (b : Bool) (n : ℕ) → (b ≡ true → 1 ≤ n) → bit b ≤ n
    paid b n h = grind arith
