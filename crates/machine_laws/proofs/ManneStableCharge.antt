-- The rest of Manne's charge in a stable network: one for each node that is in no pair.
use Rattle.machine_laws.proofs.ChargePrelude.{◌≡◌, ℕ, ◌+◌, ◌*◌, ◌≤◌, Bool, true, cond, not, ◌&&◌, List, [], ◌∷◌, length, filter_map, count_by, nat_lt, Option, None, Some, is_some, IsTrue, refl, sym, ap, ◌∙◌, arith, not_from_true, names, neighbours, edge_list, node_count, State, IsState, is_at, holds_at, pointer, points, flag, partner, married, manne_closed, manne_node_charge, manne_charge, IsStable, pair_above, mutual_pairs, partner_some, partner_from, or_left, or_right, ◌||◌}
use Rattle.machine_laws.proofs.ListCounts.{count_cons, count_not, count_agree, sum_agree, sum_agree_in, sum_le, none_count}
use Rattle.machine_laws.proofs.Members.{names_present, names_len}
use Rattle.machine_laws.proofs.EdgesByNodes.{edges_by_nodes}
use Rattle.machine_laws.proofs.EdgesByNodes.{by_both}
use Rattle.machine_laws.proofs.ClosedByPointers.{target_counted}
use Rattle.machine_laws.proofs.Stances.{married_is}
use Rattle.machine_laws.proofs.StableCharge.{none_unanswered, an_end_paired}
use Rattle.machine_laws.proofs.PaidMoves.{bit}
use Rattle.machine_laws.proofs.TwoPasses.{married_answered}

-- the charge is the number of nodes that are not married
pub manne_stable_leaves : (s : State) → IsState s → IsStable true s → manne_charge s ≡ count_by (λ v. not (married s v)) (names s.network)
manne_stable_leaves s good stable =
    let unanswered = none_unanswered true s stable in
    let open_edges = none_count (λ e. not (manne_closed s e)) (edge_list s.network) (λ e there. not_from_true (manne_closed s e) (an_end_paired true s good stable e there (IsTrue (manne_closed s e))
    (λ h. or_left (married s e.0 || married s e.1) _ (or_left (married s e.0) _ (married_is s e.0 good ∙ h)))
    (λ h. or_left (married s e.0 || married s e.1) _ (or_right (married s e.0) _ (married_is s e.1 good ∙ h))))) in
    let nodes = sum_agree_in (manne_node_charge s) (λ v. cond (not (married s v)) 1 0) (names s.network) (λ v there. one (married s v) (flag s v) (stable.flagged refl v (names_present s.network v there))) in
    omega (arith, unanswered, open_edges, nodes)
  where
    one : (m f : Bool) → f ≡ m → ◌≡◌ {A = ℕ} (cond m (cond f 0 1) (cond f 2 1)) (cond (not m) 1 0)
    one m f e = grind arith

-- ---- married nodes are twice the pairs

filter_map_len : {X Y : Type 0} (h : X → Option Y) (xs : List X) → length (filter_map h xs) ≡ count_by (λ x. is_some (h x)) xs
filter_map_len h [] = refl
filter_map_len h (x ∷ xs) = grind (arith, filter_map_len h xs, count_cons (λ y. is_some (h y)) x xs)

-- v and w point at each other
abbrev both : State → ℕ × ℕ → Bool
both s e = points s.registers e.0 e.1 && points s.registers e.1 e.0

-- a married node is in one pair, and its partner is above it or not
wed_at : (s : State) (v : ℕ) → IsState s → count_by (λ w. both s (v, w)) (neighbours s.network v) ≡ bit (married s v)
wed_at s v good = target_counted s good (λ w. points s.registers w v) v ∙ ap bit (sym (married_answered s v good))

lower_at : (s : State) (v : ℕ) → IsState s → count_by (λ w. nat_lt v w && both s (v, w)) (neighbours s.network v) ≡ bit (is_some (pair_above v (partner s v)))
lower_at s v good =
    count_agree (λ w. nat_lt v w && both s (v, w)) (λ w. points s.registers v w && (nat_lt v w && points s.registers w v)) (λ w. order (nat_lt v w) (points s.registers v w) (points s.registers w v)) (neighbours s.network v)
    ∙ target_counted s good (λ w. nat_lt v w && points s.registers w v) v
    ∙ ap bit (sym (at (pointer s) (partner s v) (partner_some s v) (λ w. partner_from s v w good)))
  where
    order : (l p q : Bool) → (l && (p && q)) ≡ (p && (l && q))
    order l p q = grind arith

    at : (p : ℕ → Option ℕ) (o : Option ℕ) → ((w : ℕ) → o ≡ Some w → (p v ≡ Some w) × (p w ≡ Some v)) → ((w : ℕ) → p v ≡ Some w → p w ≡ Some v → o ≡ Some w) → is_some (pair_above v o) ≡ holds_at (λ w. nat_lt v w && is_at (p w) v) (p v)
    at p None some from = grind arith
    at p (Some x) some from = let pair = some x refl in grind arith

-- Each pair has two married nodes, and each married node is in one.
pub married_twice : (s : State) → IsState s → count_by (married s) (names s.network) ≡ 2 * length (mutual_pairs s)
married_twice s good =
    let pairs = filter_map_len (λ v. pair_above v (partner s v)) (names s.network) in
    let lower = sum_agree (λ v. count_by (λ w. nat_lt v w && both s (v, w)) (neighbours s.network v)) (λ v. bit (is_some (pair_above v (partner s v)))) (λ v. lower_at s v good) (names s.network) in
    let wed = sum_agree (λ v. count_by (λ w. both s (v, w)) (neighbours s.network v)) (λ v. bit (married s v)) (λ v. wed_at s v good) (names s.network) in
    let back = count_agree (λ e. both s (e.1, e.0)) (both s) (λ e. swap (points s.registers e.1 e.0) (points s.registers e.0 e.1)) (edge_list s.network) in
    omega (arith, pairs, lower, wed, back, by_both s.network good.is_network (λ v w. both s (v, w)), edges_by_nodes s.network good.is_network (both s))
  where
    swap : (p q : Bool) → (p && q) ≡ (q && p)
    swap p q = grind arith

pub married_are_pairs : (s : State) → IsState s → count_by (λ v. not (married s v)) (names s.network) + 2 * length (mutual_pairs s) ≡ node_count s.network
married_are_pairs s good = omega (arith, married_twice s good, count_not (married s) (names s.network), names_len s.network)

-- So nodes in pairs plus the rest of the charge are all nodes.
pub manne_stable_charge : (s : State) → IsState s → IsStable true s → manne_charge s + 2 * length (mutual_pairs s) ≡ node_count s.network
manne_stable_charge s good stable = grind (arith, manne_stable_leaves, married_are_pairs)

-- Each unmarried node adds one to the charge at least.
pub unmarried_charge : (s : State) → count_by (λ v. not (married s v)) (names s.network) ≤ manne_charge s
unmarried_charge s = grind (arith, sum_le)
