-- By how much the charge grows under Manne's rules at one disturbance.
use Rattle.machine_laws.proofs.ChargePrelude.{◌≡◌, ◌≢◌, ℕ, ◌+◌, ◌-◌, ◌*◌, ◌≤◌, Bool, true, false, cond, not, ◌&&◌, ◌||◌, count_by, nat_eq, get_or, Option, None, Some, IsTrue, refl, sym, ap, ◌∙◌, subst, inl, inr, ⊎_elim, arith, cases_eq, and_parts, or_parts, or_from, ne_eqb, eq-eqb, get_or-set_other, degree_at, true≢false, Network, is_end, linked, present, names, edge_list, State, IsState, is_at, pointer, flag, points, is_mutual, partner, married, has_suitor, is_unanswered, manne_closed, manne_node_charge, manne_charge, after_link, after_unlink, after_point, after_flag, after_join, after_leave, without_pointer, linked_apart, present_range, absent_null, pointer_linked, partner_from, false_from_ne_true, left_was, flag-with_flag_other, flag-with_flag_same, without_pointer_flags, link_keeps, unlink_keeps, point_keeps, flag_keeps, join_keeps, leave_keeps, degree, manne_point_cost, suitor_from, points_true, points_from}
use Rattle.machine_laws.proofs.ListCounts.{IsIn, sum_twice}
use Rattle.machine_laws.proofs.EdgesByNodes.{zeros}
use Rattle.machine_laws.proofs.Members.{edges_contain, names_present}
use Rattle.machine_laws.proofs.Stances.{unanswered_alone}
use Rattle.machine_laws.proofs.Degrees.{at_either, at_linked, one_between}
use Rattle.machine_laws.proofs.Disturbed.{degree_without_edge}
use Rattle.machine_laws.proofs.PaidMoves.{bit, seen}
use Rattle.machine_laws.proofs.Disturbed.{IsSubNetwork, same_network, WaitsOnly, grows, no_nodes, no_edges, one_node, two_nodes, wed_stays, still_married, IsWritten, written_at, waiting_waits, some_touches, some_waits, null_waits, same_waits, linked_edges, joined_names, unlink_cuts, unlink_waits, unlink_within, leave_cuts, leave_waits, leave_within, uncrossed, edges_if, edges_at_pointer}
use Rattle.machine_laws.proofs.Writes.{cleared}

-- ---- what stays

-- a closed edge stays closed if its ends stay married, its upward pointer stays, and no flag is set at its
-- higher end
closed_by : (m n m' n' p p' f f' : Bool) → (m ≡ true → m' ≡ true) → (n ≡ true → n' ≡ true) → (p ≡ true → p' ≡ true) → (p ≡ true → f ≡ false → f' ≡ false) → (m || n || (p && not f)) ≡ true → (m' || n' || (p' && not f')) ≡ true
closed_by m n m' n' p p' f f' low high aims flags h = grind arith

-- a node's part does not grow if it stays married and its flag stays; else it grows by at most two
node_grows : (m f m' f' marked : Bool) → (marked ≡ false → (m ≡ true → m' ≡ true) × (f' ≡ f)) → ◌≤◌ (cond m' (cond f' 0 1) (cond f' 2 1)) (cond m (cond f 0 1) (cond f 2 1) + 2 * bit marked)
node_grows m f m' f' marked h = grind arith

-- If untouched edges stay closed, the charge grows by at most two for each touched edge, one for each node
-- marked as waiting and two for each marked as changed.
pub manne_grows : (s s' : State) → IsSubNetwork s.network s'.network → (touched : ℕ × ℕ → Bool) (marked changed : ℕ → Bool) → ((a b : ℕ) → IsIn (a, b) (edge_list s'.network) → touched (a, b) ≡ false → IsTrue (manne_closed s (a, b)) → IsTrue (manne_closed s' (a, b))) → WaitsOnly (pointer s) (pointer s') marked → ((x : ℕ) → IsIn x (names s'.network) → changed x ≡ false → (married s x ≡ true → married s' x ≡ true) × (flag s' x ≡ flag s x)) → manne_charge s' ≤ manne_charge s + 2 * count_by touched (edge_list s'.network) + count_by marked (names s'.network) + 2 * count_by changed (names s'.network)
manne_grows s s' within touched marked changed closed waits stays =
    let more = grows s s' (manne_closed s) (manne_closed s') (manne_node_charge s) (manne_node_charge s') (λ x. 2 * bit (changed x)) touched marked (λ a b there clear. (within.edges (a, b) there, closed a b there clear)) waits (λ x there. inl (within.nodes x there, node_grows (married s x) (flag s x) (married s' x) (flag s' x) (changed x) (stays x there))) in
    omega (arith, more, sum_twice (λ x. bit (changed x)) (names s'.network))

-- married nodes stay married if the pointers of pairs stay
married_stays : (s s' : State) → IsState s → IsState s' → (x : ℕ) → ((w : ℕ) → pointer s x ≡ Some w → pointer s w ≡ Some x → (pointer s' x ≡ Some w) × (pointer s' w ≡ Some x)) → married s x ≡ true → married s' x ≡ true
married_stays s s' good good' = wed_stays (pointer s) (pointer s') (married s) (married s') (has_suitor s) (has_suitor s') (seen s good) (seen s' good')

closed_stays : (s s' : State) (a b : ℕ) → (married s a ≡ true → married s' a ≡ true) → (married s b ≡ true → married s' b ≡ true) → (pointer s a ≡ Some b → pointer s' a ≡ Some b) → (pointer s a ≡ Some b → flag s b ≡ false → flag s' b ≡ false) → IsTrue (manne_closed s (a, b)) → IsTrue (manne_closed s' (a, b))
closed_stays s s' a b low high aims flags = closed_by (married s a) (married s b) (married s' a) (married s' b) (points s.registers a b) (points s'.registers a b) (flag s b) (flag s' b) low high (λ h. points_from s' a b (aims (points_true s a b h))) (λ h. flags (points_true s a b h))

-- ---- a pointer is written

module _ (s : State) (v : ℕ) (target : Option ℕ) (good : IsState s) (has : IsTrue (present s.network v)) (near : (x : ℕ) → target ≡ Some x → IsTrue (linked s.network v x)) where
  abbrev s' : State
  s' = after_point s v target

  good' : IsState s'
  good' = point_keeps s v target good near

  it : IsWritten (pointer s) (pointer s') v target
  it = written_at s v target good has

  from_some : (u : ℕ) → pointer s v ≡ Some u → manne_charge s' ≤ manne_charge s + (2 * (degree s.network v + degree s.network u) + 4)
  from_some u was =
      let t = λ (x : ℕ). nat_eq v x || nat_eq u x in
      let touches = some_touches _ _ v target it u was in
      let wed = still_married (pointer s) (pointer s') (married s) (married s') (has_suitor s) (has_suitor s') t (seen s good) (seen s' good') touches in
      let less = manne_grows s s' (same_network s.network) (λ e. is_end v e || is_end u e) t t
      (λ a b there clear. let off = ends u a b clear in closed_stays s s' a b (wed a off.0) (wed b off.1) (touches.kept a b off.1) (λ at low. low))
      (some_waits _ _ v target it u was) (λ x there clear. (wed x clear, refl)) in
      omega (arith, less, at_linked s.network good.is_network v u (pointer_linked s v u good was), two_nodes s.network v u)
    where
      ends : (u a b : ℕ) → (is_end v (a, b) || is_end u (a, b)) ≡ false → ((nat_eq v a || nat_eq u a) ≡ false) × ((nat_eq v b || nat_eq u b) ≡ false)
      ends u a b clear = grind arith

  -- a null pointer that is written undoes nothing: it may be unanswered
  from_null : pointer s v ≡ None → manne_charge s' ≤ manne_charge s + 1
  from_null null =
      let stay : (x w : ℕ) → pointer s x ≡ Some w → pointer s' x ≡ Some w = λ x w at. kept (pointer s) (pointer s') it null x w at in
      let wed = λ (x : ℕ). married_stays s s' good good' x (λ w at back. (stay x w at, stay w x back)) in
      let less = manne_grows s s' (same_network s.network) (λ e. false) (nat_eq v) (λ x. false) (λ a b there clear. closed_stays s s' a b (wed a) (wed b) (stay a b) (λ at low. low)) (null_waits _ _ v target it null) (λ x there clear. (wed x, refl)) in
      omega (arith, less, no_edges, no_nodes, one_node s.network v)
    where
      kept : (p p' : ℕ → Option ℕ) → IsWritten p p' v target → p v ≡ None → (x w : ℕ) → p x ≡ Some w → p' x ≡ Some w
      kept p p' it null x w at = grind (arith, it.others)

  -- an unanswered pointer that is written may open the edge that it crossed
  from_waiting : (u : ℕ) → pointer s v ≡ Some u → pointer s u ≢ Some v → manne_charge s' ≤ manne_charge s + 2
  from_waiting u was alone =
      let wed = λ (x : ℕ). married_stays s s' good good' x (λ w at back. (kept (pointer s) (pointer s') it u was alone x w at back, kept (pointer s) (pointer s') it u was alone w x back at)) in
      let less = manne_grows s s' (same_network s.network) (λ e. is_end v e && is_end u e) (λ x. false) (λ x. false) (λ a b there clear. closed_stays s s' a b (wed a) (wed b) (aims (pointer s) (pointer s') it u was a b clear) (λ at low. low)) (waiting_waits _ _ v target it u was alone) (λ x there clear. (wed x, refl)) in
      omega (arith, less, one_between s.network good.is_network v u (linked_apart s.network v u good.is_network (pointer_linked s v u good was)), no_nodes)
    where
      kept : (p p' : ℕ → Option ℕ) → IsWritten p p' v target → (u : ℕ) → p v ≡ Some u → p u ≢ Some v → (x w : ℕ) → p x ≡ Some w → p w ≡ Some x → p' x ≡ Some w
      kept p p' it u was alone x w at back = grind (arith, it.others)

      aims : (p p' : ℕ → Option ℕ) → IsWritten p p' v target → (u : ℕ) → p v ≡ Some u → (a b : ℕ) → (is_end v (a, b) && is_end u (a, b)) ≡ false → p a ≡ Some b → p' a ≡ Some b
      aims p p' it u was a b clear at = grind (arith, it.others)

  pub point_costs : manne_charge s' ≤ manne_charge s + manne_point_cost s.network v (is_unanswered s v) (pointer s v)
  point_costs = by_case (is_unanswered s v) (pointer s v) refl refl
    where
      by_case : (b : Bool) (o : Option ℕ) → is_unanswered s v ≡ b → pointer s v ≡ o → manne_charge s' ≤ manne_charge s + manne_point_cost s.network v b o
      by_case true (Some u) waits was = from_waiting u was (unanswered_alone s v u waits was)
      by_case false (Some u) waits was = from_some u was
      by_case b None waits was = from_null was

-- ---- an edge goes

unlink_flags : (s : State) (a b x : ℕ) → flag (after_unlink s a b) x ≡ flag s x
unlink_flags s a b x = ap (λ l. get_or l x false) (without_pointer_flags (without_pointer s.registers a b) b a ∙ without_pointer_flags s.registers a b)

not_across : (a b x w : ℕ) → (x ≡ a → w ≡ b → ⊥) → (x ≡ b → w ≡ a → ⊥) → ((nat_eq x a && nat_eq w b) || (nat_eq x b && nat_eq w a)) ≡ false
not_across a b x w there here = grind arith

-- the pointers of other pairs do not cross the cut
pair_apart : (p : ℕ → Option ℕ) (a b x w : ℕ) → ((is_at (p a) b && is_at (p b) a) && (nat_eq a x || nat_eq b x)) ≡ false → p x ≡ Some w → p w ≡ Some x → ((nat_eq x a && nat_eq w b) || (nat_eq x b && nat_eq w a)) ≡ false
pair_apart p a b x w clear at back = not_across a b x w (λ here there. grind arith) (λ here there. grind arith)

parted_ends : (mu : Bool) (a b x y : ℕ) → (mu && (is_end a (x, y) || is_end b (x, y))) ≡ false → ((mu && (nat_eq a x || nat_eq b x)) ≡ false) × ((mu && (nat_eq a y || nat_eq b y)) ≡ false)
parted_ends mu a b x y clear = grind arith

-- If a pair is parted, the edges left at both nodes may open, and their flags are wrong.
pub unlink_costs : (s : State) (a b : ℕ) → IsState s → IsTrue (linked s.network a b) → manne_charge (after_unlink s a b) ≤ manne_charge s + cond (is_mutual s a b) (2 * ((degree s.network a - 1) + (degree s.network b - 1)) + 4) 0
unlink_costs s a b good near =
    let good' = unlink_keeps s a b good in
    let mu = is_mutual s a b in
    let wed = λ (x : ℕ) (clear : (mu && (nat_eq a x || nat_eq b x)) ≡ false). married_stays s (after_unlink s a b) good good' x (λ w at back. let off = pair_apart (pointer s) a b x w clear at back in ((unlink_cuts s a b).stays x w at off, (unlink_cuts s a b).stays w x back ((unlink_cuts s a b).back w x ∙ off))) in
    let less = manne_grows s (after_unlink s a b) (unlink_within s a b) (λ e. mu && (is_end a e || is_end b e)) (λ x. false) (λ x. mu && (nat_eq a x || nat_eq b x))
    (λ x y there clear. let off = parted_ends mu a b x y clear in closed_stays s (after_unlink s a b) x y (wed x off.0) (wed y off.1) (λ at. (unlink_cuts s a b).stays x y at (uncrossed s a b x y good there)) (λ at low. unlink_flags s a b y ∙ low))
    (unlink_waits s a b) (λ x there clear. (wed x clear, unlink_flags s a b x)) in
    omega (arith, less, pays mu good', no_nodes)
  where
    pays : (mu : Bool) → IsState (after_unlink s a b) → 2 * count_by (λ e. mu && (is_end a e || is_end b e)) (edge_list (after_unlink s a b).network) + 2 * count_by (λ x. mu && (nat_eq a x || nat_eq b x)) (names s.network) ≤ cond mu (2 * ((degree s.network a - 1) + (degree s.network b - 1)) + 4) 0
    pays true still = omega (arith, at_either (after_unlink s a b).network still.is_network a b, two_nodes s.network a b, (degree_without_edge s a b good near).0, (degree_without_edge s a b good near).1)
    pays false still = omega (arith, no_edges, no_nodes)

-- ---- a node goes

leave_flags : (s : State) (v x : ℕ) → (x ≡ v → ⊥) → flag (after_leave s v) x ≡ flag s x
leave_flags s v x apart = get_or-set_other s.registers.flags v x false false apart

-- each node that is left is another one
left_apart : (s : State) (v x : ℕ) → IsIn x (names (after_leave s v).network) → x ≡ v → ⊥
left_apart s v x there same = true≢false (sym (and_parts _ _ (and_parts _ _ (subst (λ y. IsTrue (present (after_leave s v).network y)) same (names_present (after_leave s v).network x there))).1).1 ∙ cleared s.network.here v false)

-- after a node of a pair leaves, the edges left to its partner may open, and the partner's flag is wrong
abbrev pub parted_cost : Network → Option ℕ → ℕ
parted_cost net None = 0
parted_cost net (Some u) = 2 * degree net u + 2

pub leave_costs : (s : State) (v : ℕ) → IsState s → IsTrue (present s.network v) → manne_charge (after_leave s v) ≤ manne_charge s + parted_cost (after_leave s v).network (partner s v)
leave_costs s v good has =
    let good' = leave_keeps s v good in
    let wed = λ (x : ℕ) (apart : x ≡ v → ⊥) (clear : is_at (partner s v) x ≡ false). married_stays s (after_leave s v) good good' x (λ w at back. let off = free (pointer s) (partner s v) (λ y there here. partner_from s v y good there here) x apart clear w at back in ((leave_cuts s v).stays x w at off.0, (leave_cuts s v).stays w x back off.1)) in
    let less = manne_grows s (after_leave s v) (leave_within s v good has) (λ e. is_at (partner s v) e.0 || is_at (partner s v) e.1) (λ x. false) (is_at (partner s v))
    (λ a b there clear. let left = left_was s.network.edges v a b (edges_contain (after_leave s v).network (a, b) there) in let off = or_parts (is_at (partner s v) a) (is_at (partner s v) b) clear in closed_stays s (after_leave s v) a b (wed a left.0 off.0) (wed b left.1 off.1) (λ at. (leave_cuts s v).stays a b at (or_from _ _ (ne_eqb a v left.0) (ne_eqb b v left.1))) (λ at low. leave_flags s v b left.1 ∙ low))
    (leave_waits s v) (λ x there clear. (wed x (left_apart s v x there) clear, leave_flags s v x (left_apart s v x there))) in
    omega (arith, less, edges_at_pointer (after_leave s v).network good'.is_network (partner s v), nodes (partner s v), no_nodes)
  where
    free : (p : ℕ → Option ℕ) (o : Option ℕ) → ((y : ℕ) → p v ≡ Some y → p y ≡ Some v → o ≡ Some y) → (x : ℕ) → (x ≡ v → ⊥) → is_at o x ≡ false → (w : ℕ) → p x ≡ Some w → p w ≡ Some x → ((nat_eq x v || nat_eq w v) ≡ false) × ((nat_eq w v || nat_eq x v) ≡ false)
    free p o partner x apart clear w at back = grind (arith, partner x)

    nodes : (o : Option ℕ) → 2 * degree_at (after_leave s v).network o + 2 * count_by (is_at o) (names (after_leave s v).network) ≤ parted_cost (after_leave s v).network o
    nodes None = omega (arith, no_nodes)
    nodes (Some u) = omega (arith, one_node (after_leave s v).network u)

-- ---- a flag is written

-- a node's part grows by at most one where the flag alone changes
adds : (m f m' f' t : Bool) → (m ≡ true → m' ≡ true) → (t ≡ false → f' ≡ f) → ◌≤◌ (cond m' (cond f' 0 1) (cond f' 2 1)) (cond m (cond f 0 1) (cond f 2 1) + bit t)
adds m f m' f' t wed other = grind arith

-- A flag adds one at its node; set at a node with a suitor, it may open the node's edges.
pub flag_costs : (s : State) (v : ℕ) (value : Bool) → IsState s → IsTrue (present s.network v) → manne_charge (after_flag s v value) ≤ manne_charge s + (1 + cond (value && has_suitor s v) (2 * degree s.network v) 0)
flag_costs s v value good has =
    let other : (x : ℕ) → (x ≡ v → ⊥) → flag (after_flag s v value) x ≡ flag s x = λ x apart. flag-with_flag_other s.registers v value x apart in
    let here : flag (after_flag s v value) v ≡ value = flag-with_flag_same s.registers v value (let most = (present_range s.network v has).1 in omega (arith, most, good.flags_len)) in
    let wed = λ (x : ℕ). married_stays s (after_flag s v value) good (flag_keeps s v value good has) x (λ w at back. (at, back)) in
    let less = grows s (after_flag s v value) (manne_closed s) (manne_closed (after_flag s v value)) (manne_node_charge s) (manne_node_charge (after_flag s v value)) (λ x. bit (nat_eq v x)) (λ e. (value && has_suitor s v) && is_end v e) (λ x. false)
    (λ a b there clear. (there, closed_stays s (after_flag s v value) a b (wed a) (wed b) (λ at. at) (λ at low. kept (flag s) (flag (after_flag s v value)) other here (has_suitor s v) a b clear (λ same. suitor_from s v a good (at ∙ ap Some same)) low)))
    (same_waits (pointer s) (pointer (after_flag s v value)) (λ x. refl))
    (λ x there. inl (there, adds (married s x) (flag s x) (married (after_flag s v value) x) (flag (after_flag s v value) x) (nat_eq v x) (wed x) (λ apart. other x (λ same. true≢false (sym (eq-eqb v x (sym same)) ∙ apart))))) in
    omega (arith, less, edges_if s.network good.is_network (value && has_suitor s v) v (degree s.network v) (omega arith), one_node s.network v, no_nodes, twice (value && has_suitor s v) (degree s.network v))
  where
    twice : (b : Bool) (n : ℕ) → cond b (2 * n) 0 ≡ 2 * cond b n 0
    twice b n = grind arith

    kept : (f f' : ℕ → Bool) → ((x : ℕ) → (x ≡ v → ⊥) → f' x ≡ f x) → f' v ≡ value → (c : Bool) (a b : ℕ) → ((value && c) && is_end v (a, b)) ≡ false → (b ≡ v → c ≡ true) → f b ≡ false → f' b ≡ false
    kept f f' other here c a b clear suitor low = grind (arith, other b, cases_eq)

-- ---- edges and nodes come

pub link_costs : (s : State) (a b : ℕ) → IsState s → IsTrue (present s.network a) → IsTrue (present s.network b) → (a ≡ b → ⊥) → manne_charge (after_link s a b) ≤ manne_charge s + 2
link_costs s a b good has_a has_b apart =
    let good' = link_keeps s a b good has_a has_b apart in
    let wed = λ (x : ℕ). married_stays s (after_link s a b) good good' x (λ w at back. (at, back)) in
    let less = grows s (after_link s a b) (manne_closed s) (manne_closed (after_link s a b)) (manne_node_charge s) (manne_node_charge (after_link s a b)) (λ x. 2 * bit false) (λ e. is_end a e && is_end b e) (λ x. false)
    (λ x y there clear. (linked_edges s a b (x, y) there clear, closed_stays s (after_link s a b) x y (wed x) (wed y) (λ at. at) (λ at low. low)))
    (same_waits (pointer s) (pointer (after_link s a b)) (λ z. refl))
    (λ x there. inl (there, node_grows (married s x) (flag s x) (married (after_link s a b) x) (flag s x) false (λ clear. (wed x, refl)))) in
    omega (arith, less, one_between (after_link s a b).network good'.is_network a b apart, no_nodes, zeros)

-- A new node adds one: it is unmarried and not flagged.
pub join_costs : (s : State) (v : ℕ) → IsState s → 1 ≤ v → present s.network v ≡ false → manne_charge (after_join s v) ≤ manne_charge s + 1
join_costs s v good low absent =
    let good' = join_keeps s v low good in
    let wed = λ (x : ℕ). married_stays s (after_join s v) good good' x (λ w at back. (at, back)) in
    let unset : flag s v ≡ false = false_from_ne_true (flag s v) (λ up. true≢false (sym (good.flagged_present v up) ∙ absent)) in
    let less = grows s (after_join s v) (manne_closed s) (manne_closed (after_join s v)) (manne_node_charge s) (manne_node_charge (after_join s v)) (λ x. bit (nat_eq v x)) (λ e. false) (λ x. false)
    (λ x y there clear. (there, closed_stays s (after_join s v) x y (wed x) (wed y) (λ at. at) (λ at low. low)))
    (same_waits (pointer s) (pointer (after_join s v)) (λ z. refl))
    (λ x there. ⊎_elim (λ old. inl (old, adds (married s x) (flag s x) (married (after_join s v) x) (flag s x) (nat_eq v x) (wed x) (λ off. refl))) (λ same. inr (ap (pointer s) same ∙ absent_null s v good absent, fresh (married (after_join s v) x) (flag s x) (nat_eq v x) (eq-eqb v x (sym same)) (ap (flag s) same ∙ unset))) (joined_names s v x there)) in
    omega (arith, less, one_node (after_join s v).network v, no_edges, no_nodes)
  where
    fresh : (m f t : Bool) → t ≡ true → f ≡ false → ◌≤◌ (cond m (cond f 0 1) (cond f 2 1)) (bit t)
    fresh m f t marked unset = grind arith
