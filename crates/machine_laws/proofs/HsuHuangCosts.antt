-- By how much the charge grows under Hsu and Huang's rules at one disturbance.
use Rattle.machine_laws.proofs.ChargePrelude.{◌≡◌, ◌≢◌, ℕ, ◌+◌, ◌-◌, ◌*◌, ◌≤◌, Bool, true, false, cond, not, ◌&&◌, ◌||◌, count_by, nat_eq, Option, None, Some, is_none, IsTrue, refl, sym, ap, ◌∙◌, inl, inr, ⊎_elim, ◌⊎◌, arith, cases_eq, true≢false, is_end, linked, present, names, edge_list, State, IsState, is_at, pointer, points, married, has_suitor, is_unanswered, hsu_huang_closed, hsu_huang_charge, after_link, after_unlink, after_point, after_join, after_leave, linked_apart, absent_null, pointer_linked, left_was, holds_at, link_keeps, unlink_keeps, point_keeps, join_keeps, leave_keeps, degree, degree_at, hsu_huang_point_cost}
use Rattle.machine_laws.proofs.ListCounts.{IsIn, count_or}
use Rattle.machine_laws.proofs.Members.{edges_contain}
use Rattle.machine_laws.proofs.EdgesByNodes.{zeros}
use Rattle.machine_laws.proofs.Stances.{unanswered_alone}
use Rattle.machine_laws.proofs.Degrees.{edges_at, at_linked, at_one, one_between}
use Rattle.machine_laws.proofs.Disturbed.{degree_without_edge, degree_left_at}
use Rattle.machine_laws.proofs.PaidMoves.{IsSeen, seen}
use Rattle.machine_laws.proofs.Disturbed.{IsSubNetwork, same_network, WaitsOnly, grows, no_nodes, no_edges, one_node, two_nodes, IsTouching, still_married, IsWritten, written_at, waiting_touches, waiting_waits, some_touches, some_waits, null_touches, null_waits, again, same_touches, same_waits, linked_edges, joined_names, cut_touches, across, unlink_cuts, unlink_waits, unlink_within, beside, leave_cuts, leave_waits, leave_within, edges_if, edges_at_pointer}

-- ---- closed edges

abbrev closed : (ℕ → Option ℕ) → (ℕ → Bool) → (ℕ → Bool) → ℕ → ℕ → Bool
closed p m c a b = m a || m b || (is_at (p a) b && is_none (p b)) || (is_at (p b) a && is_none (p a)) || (is_none (p a) && c a && (is_none (p b) && c b))

closed_swap : (p : ℕ → Option ℕ) (m c : ℕ → Bool) (a b : ℕ) → closed p m c a b ≡ closed p m c b a
closed_swap p m c a b = grind arith

module _ (p p' : ℕ → Option ℕ) (m m' c c' : ℕ → Bool) (old : IsSeen p m c) (new : IsSeen p' m' c') where
  -- a closed edge with no touched end stays closed
  still_closed : (touched : ℕ → Bool) → IsTouching p p' touched → (a b : ℕ) → touched a ≡ false → touched b ≡ false → closed p m c a b ≡ true → closed p' m' c' a b ≡ true
  still_closed touched it a b low high h = grind (arith, still_married p p' m m' c c' touched old new it)

  module _ (v : ℕ) (target : Option ℕ) (it : IsWritten p p' v target) where
    -- a null pointer is written: the edge to the target stays closed, and those elsewhere
    aim_closed : (a w : ℕ) → p v ≡ None → target ≡ Some w → (w ≡ v → ⊥) → a ≡ v → closed p m c a w ≡ true → closed p' m' c' a w ≡ true
    aim_closed a w null aim apart same h = grind (arith, it.here, it.others, old.wed w, cases_eq)

    aimed_closed : (w : ℕ) → p v ≡ None → target ≡ Some w → (w ≡ v → ⊥) → (a b : ℕ) → (is_end v (a, b) && not (is_end w (a, b))) ≡ false → closed p m c a b ≡ true → closed p' m' c' a b ≡ true
    aimed_closed w null aim apart a b clear h =
        ⊎_elim
        (λ (low, high). aim_closed a b null (aim ∙ ap Some (sym high)) (λ same. apart (sym high ∙ same)) low h)
        (λ rest. ⊎_elim
        (λ (low, high). closed_swap p' m' c' a b ∙ aim_closed b a null (aim ∙ ap Some (sym low)) (λ same. apart (sym low ∙ same)) high (closed_swap p m c b a ∙ h))
        (λ (low, high). still_closed (nat_eq v) (null_touches p p' v target it null) a b low high h)
        rest)
        (ends w a b apart clear)
      where
        ends : (w a b : ℕ) → (w ≡ v → ⊥) → (is_end v (a, b) && not (is_end w (a, b))) ≡ false → ((a ≡ v) × (b ≡ w)) ⊎ (((a ≡ w) × (b ≡ v)) ⊎ ((nat_eq v a ≡ false) × (nat_eq v b ≡ false)))
        ends w a b apart clear = grind arith

    -- if no pointer is at the node, all do
    alone_closed : p v ≡ None → c v ≡ false → (a b : ℕ) → (a ≡ b → ⊥) → closed p m c a b ≡ true → closed p' m' c' a b ≡ true
    alone_closed null single a b apart h = grind (arith, it.others, cases_eq)

-- ---- the charge

pub hsu_huang_grows : (s s' : State) (touched : ℕ × ℕ → Bool) (marked : ℕ → Bool) → ((a b : ℕ) → IsIn (a, b) (edge_list s'.network) → touched (a, b) ≡ false → IsIn (a, b) (edge_list s.network) × (hsu_huang_closed s (a, b) ≡ true → hsu_huang_closed s' (a, b) ≡ true)) → WaitsOnly (pointer s) (pointer s') marked → ((x : ℕ) → IsIn x (names s'.network) → IsIn x (names s.network) ⊎ (pointer s' x ≡ None)) → hsu_huang_charge s' ≤ hsu_huang_charge s + 2 * count_by touched (edge_list s'.network) + count_by marked (names s'.network)
hsu_huang_grows s s' touched marked stays waits nodes =
    let more = grows s s' (hsu_huang_closed s) (hsu_huang_closed s') (λ x. 0) (λ x. 0) (λ x. 0) touched marked stays waits (λ x there. ⊎_elim (λ old. inl (old, omega arith)) (λ new. inr (new, omega arith)) (nodes x there)) in
    omega (arith, more, zeros)

-- if edges without a touched end stay
touching : (s s' : State) → IsState s → IsState s' → IsSubNetwork s.network s'.network → (t : ℕ → Bool) (touched : ℕ × ℕ → Bool) (marked : ℕ → Bool) → IsTouching (pointer s) (pointer s') t → ((a b : ℕ) → IsIn (a, b) (edge_list s'.network) → touched (a, b) ≡ false → (t a ≡ false) × (t b ≡ false)) → WaitsOnly (pointer s) (pointer s') marked → hsu_huang_charge s' ≤ hsu_huang_charge s + 2 * count_by touched (edge_list s'.network) + count_by marked (names s'.network)
touching s s' good good' within t touched marked it ends waits =
    hsu_huang_grows s s' touched marked
    (λ a b there clear. (within.edges (a, b) there, still_closed (pointer s) (pointer s') (married s) (married s') (has_suitor s) (has_suitor s') (seen s good) (seen s' good') t it a b (ends a b there clear).0 (ends a b there clear).1))
    waits (λ x there. inl (within.nodes x there))

-- the same pointers close the same edges
same_closed : (s s' : State) → IsState s → IsState s' → ((x : ℕ) → pointer s' x ≡ pointer s x) → (a b : ℕ) → hsu_huang_closed s (a, b) ≡ true → hsu_huang_closed s' (a, b) ≡ true
same_closed s s' good good' same a b = still_closed (pointer s) (pointer s') (married s) (married s') (has_suitor s) (has_suitor s') (seen s good) (seen s' good') (λ x. false) (same_touches (pointer s) (pointer s') same) a b refl refl

-- ---- events

-- A new edge is open at most: no pointer crosses it.
pub link_costs : (s : State) (a b : ℕ) → IsState s → IsTrue (present s.network a) → IsTrue (present s.network b) → (a ≡ b → ⊥) → hsu_huang_charge (after_link s a b) ≤ hsu_huang_charge s + 2
link_costs s a b good has_a has_b apart =
    let good' = link_keeps s a b good has_a has_b apart in
    let less = hsu_huang_grows s (after_link s a b) (λ e. is_end a e && is_end b e) (λ x. false)
    (λ x y there clear. (linked_edges s a b (x, y) there clear, same_closed s (after_link s a b) good good' (λ z. refl) x y))
    (same_waits (pointer s) (pointer (after_link s a b)) (λ z. refl)) (λ x there. inl there) in
    omega (arith, less, one_between (after_link s a b).network good'.is_network a b apart, no_nodes)

-- A new node has no edge and no pointer.
pub join_costs : (s : State) (v : ℕ) → IsState s → 1 ≤ v → present s.network v ≡ false → hsu_huang_charge (after_join s v) ≤ hsu_huang_charge s
join_costs s v good low absent =
    let less = hsu_huang_grows s (after_join s v) (λ e. false) (λ x. false)
    (λ x y there clear. (there, same_closed s (after_join s v) good (join_keeps s v low good) (λ z. refl) x y))
    (same_waits (pointer s) (pointer (after_join s v)) (λ z. refl))
    (λ x there. ⊎_elim (λ old. inl old) (λ new. inr (ap (pointer s) new ∙ absent_null s v good absent)) (joined_names s v x there)) in
    omega (arith, less, no_edges, no_nodes)

module _ (s : State) (v : ℕ) (target : Option ℕ) (good : IsState s) (has : IsTrue (present s.network v)) (near : (x : ℕ) → target ≡ Some x → IsTrue (linked s.network v x)) where
  abbrev s' : State
  s' = after_point s v target

  good' : IsState s'
  good' = point_keeps s v target good near

  it : IsWritten (pointer s) (pointer s') v target
  it = written_at s v target good has

  from_waiting : (u : ℕ) → pointer s v ≡ Some u → pointer s u ≢ Some v → hsu_huang_charge s' ≤ hsu_huang_charge s + 2 * degree s.network u
  from_waiting u was alone =
      let less = touching s s' good good' (same_network s.network) (nat_eq u) (is_end u) (λ x. false) (waiting_touches _ _ v target it u was alone) (λ a b there clear. grind arith) (waiting_waits _ _ v target it u was alone) in
      omega (arith, less, edges_at s.network good.is_network u, no_nodes)

  from_some : (u : ℕ) → pointer s v ≡ Some u → hsu_huang_charge s' ≤ hsu_huang_charge s + 2 * (degree s.network v + degree s.network u)
  from_some u was =
      let less = touching s s' good good' (same_network s.network) (λ x. nat_eq v x || nat_eq u x) (λ e. is_end v e || is_end u e) (λ x. nat_eq v x || nat_eq u x) (some_touches _ _ v target it u was) (λ a b there clear. grind arith) (some_waits _ _ v target it u was) in
      omega (arith, less, at_linked s.network good.is_network v u (pointer_linked s v u good was), two_nodes s.network v u)

  from_null : (w : ℕ) → pointer s v ≡ None → target ≡ Some w → hsu_huang_charge s' + 1 ≤ hsu_huang_charge s + 2 * degree s.network v
  from_null w null aim =
      let less = hsu_huang_grows s s' (λ e. is_end v e && not (is_end w e)) (nat_eq v)
      (λ a b there clear. (there, aimed_closed (pointer s) (pointer s') (married s) (married s') (has_suitor s) (has_suitor s') (seen s good) (seen s' good') v target it w null aim (λ same. linked_apart s.network v w good.is_network (near w aim) (sym same)) a b clear))
      (null_waits _ _ v target it null) (λ x there. inl there) in
      omega (arith, less, at_one s.network good.is_network v w (near w aim), one_node s.network v)

  alone : pointer s v ≡ None → has_suitor s v ≡ false → hsu_huang_charge s' ≤ hsu_huang_charge s + 1
  alone null single =
      let less = hsu_huang_grows s s' (λ e. false) (nat_eq v)
      (λ a b there clear. (there, alone_closed (pointer s) (pointer s') (married s) (married s') (has_suitor s) (has_suitor s') (seen s good) (seen s' good') v target it null single a b (λ same. omega (arith, same, good.is_network.low_first a b (edges_contain s.network (a, b) there)))))
      (null_waits _ _ v target it null) (λ x there. inl there) in
      omega (arith, less, one_node s.network v, no_edges)

  unchanged : pointer s v ≡ target → hsu_huang_charge s' ≤ hsu_huang_charge s
  unchanged same =
      let less = hsu_huang_grows s s' (λ e. false) (λ x. false) (λ a b there clear. (there, same_closed s s' good good' (again _ _ v target it same) a b)) (same_waits (pointer s) (pointer s') (again _ _ v target it same)) (λ x there. inl there) in
      omega (arith, less, no_edges, no_nodes)

  pub point_costs : hsu_huang_charge s' ≤ hsu_huang_charge s + hsu_huang_point_cost s.network v (is_unanswered s v) (has_suitor s v) (pointer s v)
  point_costs = by_case (is_unanswered s v) (has_suitor s v) (pointer s v) target refl refl refl refl
    where
      by_case : (b c : Bool) (o t : Option ℕ) → is_unanswered s v ≡ b → has_suitor s v ≡ c → pointer s v ≡ o → target ≡ t → hsu_huang_charge s' ≤ hsu_huang_charge s + hsu_huang_point_cost s.network v b c o
      by_case true c (Some u) t waits suited was aim = from_waiting u was (unanswered_alone s v u waits was)
      by_case false c (Some u) t waits suited was aim = from_some u was
      by_case true c None t waits suited was aim = absurd (true≢false (sym waits ∙ ap (holds_at (λ w. not (points s.registers w v))) was))
      by_case false false None t waits suited was aim = alone was suited
      by_case false true None None waits suited was aim = let less = unchanged (was ∙ sym aim) in omega (arith, less)
      by_case false true None (Some w) waits suited was aim = let less = from_null w was aim in omega (arith, less)

-- ---- an edge goes

crossed_heads : (p : ℕ → Option ℕ) (a b x w : ℕ) → p x ≡ Some w → ((nat_eq x a && nat_eq w b) || (nat_eq x b && nat_eq w a)) ≡ true → ((is_at (p a) b && nat_eq w b) || (is_at (p b) a && nat_eq w a)) ≡ true
crossed_heads p a b x w at h = grind arith

crossed_ends : (t u : Bool) (a b x y : ℕ) → ((t && is_end b (x, y)) || (u && is_end a (x, y))) ≡ false → (((t && nat_eq x b) || (u && nat_eq x a)) ≡ false) × (((t && nat_eq y b) || (u && nat_eq y a)) ≡ false)
crossed_ends t u a b x y clear = grind arith

-- After an unlink the edges left at the head of each pointer that crossed the edge may open.
pub unlink_costs : (s : State) (a b : ℕ) → IsState s → IsTrue (linked s.network a b) → hsu_huang_charge (after_unlink s a b) ≤ hsu_huang_charge s + 2 * (cond (points s.registers a b) (degree s.network b - 1) 0 + cond (points s.registers b a) (degree s.network a - 1) 0)
unlink_costs s a b good near =
    let good' = unlink_keeps s a b good in
    let left = degree_without_edge s a b good near in
    let ab = points s.registers a b in
    let ba = points s.registers b a in
    let less = touching s (after_unlink s a b) good good' (unlink_within s a b) (λ x. (ab && nat_eq x b) || (ba && nat_eq x a)) (λ e. (ab && is_end b e) || (ba && is_end a e)) (λ x. false)
    (cut_touches (pointer s) (pointer (after_unlink s a b)) (across s a b) _ (unlink_cuts s a b) (crossed_heads (pointer s) a b))
    (λ x y there clear. crossed_ends ab ba a b x y clear) (unlink_waits s a b) in
    omega (arith, less, count_or (λ e. ab && is_end b e) (λ e. ba && is_end a e) (edge_list (after_unlink s a b).network), edges_if (after_unlink s a b).network good'.is_network ab b _ left.1, edges_if (after_unlink s a b).network good'.is_network ba a _ left.0, no_nodes)

-- ---- a node goes

-- After a leave the edges left at the pointer's target may open.
pub leave_costs : (s : State) (v : ℕ) → IsState s → IsTrue (present s.network v) → hsu_huang_charge (after_leave s v) ≤ hsu_huang_charge s + 2 * (degree_at s.network (pointer s v) - 1)
leave_costs s v good has =
    let good' = leave_keeps s v good in
    let less = touching s (after_leave s v) good good' (leave_within s v good has) (λ x. nat_eq x v || is_at (pointer s v) x) (λ e. is_at (pointer s v) e.0 || is_at (pointer s v) e.1) (λ x. false)
    (cut_touches (pointer s) (pointer (after_leave s v)) (beside s v) _ (leave_cuts s v) (heads (pointer s)))
    (λ a b there free. let left = left_was s.network.edges v a b (edges_contain (after_leave s v).network (a, b) there) in ends (pointer s v) a b left.0 left.1 free) (leave_waits s v) in
    omega (arith, less, edges_at_pointer (after_leave s v).network good'.is_network (pointer s v), degree_left_at s v good has, no_nodes)
  where
    heads : (p : ℕ → Option ℕ) (x w : ℕ) → p x ≡ Some w → (nat_eq x v || nat_eq w v) ≡ true → (nat_eq w v || is_at (p v) w) ≡ true
    heads p x w at h = grind arith

    ends : (o : Option ℕ) (a b : ℕ) → (a ≡ v → ⊥) → (b ≡ v → ⊥) → (is_at o a || is_at o b) ≡ false → ((nat_eq a v || is_at o a) ≡ false) × ((nat_eq b v || is_at o b) ≡ false)
    ends o a b low high free = grind arith
