-- The open edges: those open by the stances of their ends, less those that a pointer closes.
use Rattle.machine_laws.proofs.ChargePrelude.{◌≡◌, ℕ, ◌+◌, Bool, false, cond, not, ◌&&◌, ◌||◌, List, count_by, sum_by, Option, None, Some, is_none, IfSome, IsTrue, nat_eq, nat_lt, ap, ◌∙◌, arith, and_parts, none-some, linked, names, neighbours, edge_list, State, IsState, is_at, holds_at, pointer, flag, points, married, has_suitor, awaits, is_courted, hsu_huang_closed, manne_closed, points_true, pointer_linked, suitor_linked, null_unmarried, unanswered_unmarried, if_some_from, linked_present, option_cases, hsu_huang_apart, hsu_huang_closes, manne_apart, manne_closes}
use Rattle.machine_laws.proofs.ListCounts.{IsIn, IsWithoutRepeats, sum_add, sum_agree, count_agree}
use Rattle.machine_laws.proofs.Members.{in_names, names_without_repeats}
use Rattle.machine_laws.proofs.EdgesByNodes.{zeros, marked_once, count_filter, edges_by_nodes}
use Rattle.machine_laws.proofs.EdgesByNodes.{by_both}
use Rattle.machine_laws.proofs.Stances.{null_from}

-- ---- a pointer is at one neighbour

-- what a pointer is at is counted once
pub at_once : (o : Option ℕ) (test : ℕ → Bool) (xs : List ℕ) → IfSome o (λ w. IsIn w xs) → IsWithoutRepeats xs → count_by (λ w. is_at o w && test w) xs ≡ cond (holds_at test o) 1 0
at_once None test xs at single = zeros xs
at_once (Some x) test xs at single = count_agree (λ w. nat_eq x w && test w) (λ w. nat_eq x w && test x) same xs ∙ marked_once x (test x) xs at single
  where
    same : (w : ℕ) → (nat_eq x w && test w) ≡ (nat_eq x w && test x)
    same w = grind arith

-- among the neighbours that pass a test, v's target is one if it passes
pub target_counted : (s : State) → IsState s → (test : ℕ → Bool) (v : ℕ) → count_by (λ w. points s.registers v w && test w) (neighbours s.network v) ≡ cond (holds_at test (pointer s v)) 1 0
target_counted s good test v =
    count_filter (λ w. points s.registers v w && test w) (linked s.network v) (names s.network)
    ∙ count_agree (λ w. linked s.network v w && (points s.registers v w && test w)) (λ w. points s.registers v w && test w) same (names s.network)
    ∙ at_once (pointer s v) test (names s.network) (if_some_from (pointer s v) (λ w. IsIn w (names s.network)) named) (names_without_repeats s.network)
  where
    named : (w : ℕ) → pointer s v ≡ Some w → IsIn w (names s.network)
    named w e = in_names s.network w (linked_present s.network w v good.is_network (suitor_linked s w v good e))

    near : (l p t : Bool) → (IsTrue p → IsTrue l) → (l && (p && t)) ≡ (p && t)
    near l p t h = grind arith

    same : (w : ℕ) → (linked s.network v w && (points s.registers v w && test w)) ≡ (points s.registers v w && test w)
    same w = near (linked s.network v w) (points s.registers v w) (test w) (λ h. pointer_linked s v w good (points_true s v w h))

-- ---- Manne and others

-- e's lower end points at the higher one and so closes e, which is open by its ends
abbrev manne_pointed : State → ℕ × ℕ → Bool
manne_pointed s e = points s.registers e.0 e.1 && (not (married s e.0) && (not (flag s e.1) && not (married s e.1)))

-- at each node, that is the edge to its target, if any
manne_pointed_above : (s : State) → IsState s → (v : ℕ) → count_by (λ w. nat_lt v w && manne_pointed s (v, w)) (neighbours s.network v) ≡ cond (manne_closes s v) 1 0
manne_pointed_above s good v =
    count_agree (λ w. nat_lt v w && manne_pointed s (v, w)) (λ w. points s.registers v w && (not (married s v) && high w)) (λ w. order (nat_lt v w) (points s.registers v w) (not (married s v)) (not (flag s w)) (not (married s w))) (neighbours s.network v)
    ∙ target_counted s good (λ w. not (married s v) && high w) v
    ∙ ap (λ b. cond b 1 0) (outside (not (married s v)) (pointer s v))
  where
    high : ℕ → Bool
    high w = nat_lt v w && not (flag s w) && not (married s w)

    order : (l p m f n : Bool) → (l && (p && (m && (f && n)))) ≡ (p && (m && (l && f && n)))
    order l p m f n = grind arith

    outside : (m : Bool) (o : Option ℕ) → holds_at (λ w. m && high w) o ≡ (m && holds_at high o)
    outside m o = grind arith

-- The edges that are open by their ends are the open ones and those that a pointer at a higher node closes.
pub manne_split : (s : State) → IsState s → count_by (λ e. not (manne_closed s e)) (edge_list s.network) + count_by (manne_closes s) (names s.network) ≡ count_by (manne_apart s) (edge_list s.network)
manne_split s good =
    let each = sum_agree (λ e. cond (manne_apart s e) 1 0) (λ e. cond (not (manne_closed s e)) 1 0 + cond (manne_pointed s e) 1 0) (λ e. one (married s e.0) (married s e.1) (points s.registers e.0 e.1) (not (flag s e.1))) (edge_list s.network) in
    let both = sum_add (λ e. cond (not (manne_closed s e)) 1 0) (λ e. cond (manne_pointed s e) 1 0) (edge_list s.network) in
    let nodes = edges_by_nodes s.network good.is_network (manne_pointed s) in
    let targets = sum_agree (λ v. count_by (λ w. nat_lt v w && manne_pointed s (v, w)) (neighbours s.network v)) (λ v. cond (manne_closes s v) 1 0) (manne_pointed_above s good) (names s.network) in
    omega (arith, each, both, nodes, targets)
  where
    one : (m n p f : Bool) → ◌≡◌ {A = ℕ} (cond (not m && not n) 1 0) (cond (not (m || n || (p && f))) 1 0 + cond (p && (not m && (f && not n))) 1 0)
    one m n p f = grind arith

-- ---- Hsu and Huang

-- an edge that a waiting pointer closes is open by its ends, and has no other such pointer
awaits_blocks : (s : State) (v w : ℕ) → IsTrue (awaits s v w) → (married s v ≡ false) × (married s w ≡ false) × (is_courted s v ≡ false) × (awaits s w v ≡ false)
awaits_blocks s v w h = grind (arith, and_parts, is_none, points_true, null_from, unanswered_unmarried, none-some, null_unmarried, has_suitor)

-- an edge that is open by its ends is open, or the pointer of one end closes it
hsu_huang_one : (m n p q c d : Bool) → (IsTrue p → (m ≡ false) × (n ≡ false) × (c ≡ false) × (q ≡ false)) → (IsTrue q → (n ≡ false) × (m ≡ false) × (d ≡ false) × (p ≡ false)) → ◌≡◌ {A = ℕ} (cond (not m && not n && not (c && d)) 1 0) (cond (not (m || n || p || q || (c && d))) 1 0 + (cond p 1 0 + cond q 1 0))
hsu_huang_one m n p q c d h k = grind arith

-- The edges that are open by their ends are the open ones and those that a pointer at a null node closes.
pub hsu_huang_split : (s : State) → IsState s → count_by (λ e. not (hsu_huang_closed s e)) (edge_list s.network) + count_by (hsu_huang_closes s) (names s.network) ≡ count_by (hsu_huang_apart s) (edge_list s.network)
hsu_huang_split s good =
    let each = sum_agree (λ e. cond (hsu_huang_apart s e) 1 0) (λ e. cond (not (hsu_huang_closed s e)) 1 0 + (cond (awaits s e.0 e.1) 1 0 + cond (awaits s e.1 e.0) 1 0)) (λ e. hsu_huang_one (married s e.0) (married s e.1) (awaits s e.0 e.1) (awaits s e.1 e.0) (is_courted s e.0) (is_courted s e.1) (awaits_blocks s e.0 e.1) (awaits_blocks s e.1 e.0)) (edge_list s.network) in
    let open_and = sum_add (λ e. cond (not (hsu_huang_closed s e)) 1 0) (λ e. cond (awaits s e.0 e.1) 1 0 + cond (awaits s e.1 e.0) 1 0) (edge_list s.network) in
    let either = sum_add (λ (e : ℕ × ℕ). cond (awaits s e.0 e.1) 1 0) (λ e. cond (awaits s e.1 e.0) 1 0) (edge_list s.network) in
    let nodes = by_both s.network good.is_network (awaits s) in
    let targets = sum_agree (λ v. count_by (awaits s v) (neighbours s.network v)) (λ v. cond (hsu_huang_closes s v) 1 0) (target_counted s good (λ w. is_none (pointer s w))) (names s.network) in
    omega (arith, each, open_and, either, nodes, targets)

-- ---- at the targets

-- The pointers that close an edge, counted at the nodes that they are at.
pub closing_by_targets : (s : State) → IsState s → (closes : ℕ → Bool) → ((v : ℕ) → pointer s v ≡ None → closes v ≡ false) → sum_by (λ w. count_by (λ v. points s.registers v w && closes v) (neighbours s.network w)) (names s.network) ≡ count_by closes (names s.network)
closing_by_targets s good closes null =
    let at_targets = by_both s.network good.is_network (λ w v. points s.registers v w && closes v) in
    let at_nodes = by_both s.network good.is_network (λ v w. points s.registers v w && closes v) in
    let each = sum_agree (λ v. count_by (λ w. points s.registers v w && closes v) (neighbours s.network v)) (λ v. cond (closes v) 1 0) (λ v. target_counted s good (λ w. closes v) v ∙ ap (λ b. cond b 1 0) (at_pointer v)) (names s.network) in
    omega (arith, at_targets, at_nodes, each)
  where
    at_pointer : (v : ℕ) → holds_at (λ w. closes v) (pointer s v) ≡ closes v
    at_pointer v = grind (arith, null v, option_cases)
