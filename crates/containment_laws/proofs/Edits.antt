-- What each accepted disturbance does not change.
use Rattle.containment_laws.proofs.Prelude.{◌≡◌, ℕ, Bool, true, false, cond, not, ◌&&◌, ◌||◌, [], map, Option, None, Some, nat_eq, IsTrue, sym, ap, ◌∙◌, subst, inl, ◌⊎◌, get_or, arith, true≢false, and_parts, and_from, and_cases, or_left, or_right, cases_Bool, cases_eq, eq-eqb, not_from_false, false_from_ne_true, none-some, same_Some, get_or-set_other, get_or-map, Event, Link, Unlink, Point, Flag, Join, Leave, Accepted, Network, edge, linked, present, without_node, State, Registers, IsState, is_at, points, pointer, pointer_of, flag, married, is_mutual, RuleTable, after_link, after_unlink, after_point, after_flag, after_join, after_leave, without_pointer, without_name, unless_at, refusal_of, Does, cond_none, true_from_not, inserted_cases, removed_was, edge_ends, contains-without, present_range, points_true, points_from, married_from, null_unmarried, some_from_is_at, pointer-with_pointer_other, pointer-with_pointer_same, flag-with_flag_other, flag-with_flag_same, without_pointer_flags, left_pointer, nothing_left, lowered, point_parts, flagged_present, is_parted, is_hit}
use Rattle.machine_laws.proofs.Disturbed.{IsCut, across, unlink_cuts}

-- From one state to another by an event. A node that is not parted stays with its partner. A node that is not
-- hit keeps a right flag; if its pointer is null it stays null, and the node gets no edge except to a married
-- node that is not parted.
pub record IsMild (t : RuleTable) (s : State) (event : Event) (s' : State) : Type 0 where
  pub pairs : (v w : ℕ) → pointer s v ≡ Some w → pointer s w ≡ Some v → is_parted s event v ≡ false → IsTrue (present s'.network v) ⊎ (is_parted s event w ≡ false) → (pointer s' v ≡ Some w) × (pointer s' w ≡ Some v)
  pub nulls : (v : ℕ) → pointer s v ≡ None → is_hit s event v ≡ false → pointer s' v ≡ None
  pub edges : (v w : ℕ) → pointer s v ≡ None → is_hit s event v ≡ false → IsTrue (linked s'.network v w) → IsTrue (linked s.network v w) ⊎ ((married s w ≡ true) × (is_parted s event w ≡ false))
  pub flags : (v : ℕ) → IsTrue (present s'.network v) → (IsTrue t.flags → flag s v ≡ married s v) → is_hit s event v ≡ false → flag s' v ≡ flag s v

-- two that point at each other
pub mutual_from : (s : State) (v w : ℕ) → pointer s v ≡ Some w → pointer s w ≡ Some v → is_mutual s v w ≡ true
mutual_from s v w at back = and_from (points s.registers v w) (points s.registers w v) (points_from s v w at) (points_from s w v back)

pub mutual_is : (s : State) (v w : ℕ) → is_mutual s v w ≡ true → (pointer s v ≡ Some w) × (pointer s w ≡ Some v)
mutual_is s v w h = grind (arith, and_parts, points_true)

-- ---- link

link_hits : (s : State) (a b v : ℕ) → married s a ≡ false → married s b ≡ false → (nat_eq v a || nat_eq v b) ≡ true → is_hit s (Link a b) v ≡ true
link_hits s a b v low high ends = grind (arith, and_from, not_from_false)

link_mild : (t : RuleTable) (s : State) (a b : ℕ) → IsMild t s (Link a b) (after_link s a b)
link_mild t s a b = grind (arith, edge_ends, inserted_cases, true≢false, link_hits, null_unmarried, or_left, eq-eqb, cases_Bool, or_right)

-- ---- unlink

uncut : (p : ℕ → Option ℕ) (a b v w : ℕ) → p v ≡ Some w → p w ≡ Some v → ((is_at (p a) b && is_at (p b) a) && (nat_eq v a || nat_eq v b)) ≡ false → ((nat_eq v a && nat_eq w b) || (nat_eq v b && nat_eq w a)) ≡ false
uncut p a b v w at back kept = grind arith

unlink_mild : (t : RuleTable) (s : State) (a b : ℕ) → IsMild t s (Unlink a b) (after_unlink s a b)
unlink_mild t s a b = record {
  pairs = λ v w at back kept has. let off = uncut (pointer s) a b v w at back kept in (cut.stays v w at off, cut.stays w v back (cut.back w v ∙ off));
  nulls = λ v null calm. nothing_left (pointer (after_unlink s a b) v) (λ y e. none-some y (sym null ∙ (cut.was v y e).0));
  edges = λ v w null calm near. inl (removed_was s.network.edges (edge a b) (edge v w) near);
  flags = λ v has right calm. ap (λ l. get_or l v false) (without_pointer_flags (without_pointer s.registers a b) b a ∙ without_pointer_flags s.registers a b);
}
  where
    cut : IsCut (pointer s) (pointer (after_unlink s a b)) (across s a b)
    cut = unlink_cuts s a b

-- ---- point

-- the node and its partner are parted if its pointer changes
point_parts_both : (s : State) (a v w : ℕ) → IsState s → pointer s v ≡ Some w → pointer s w ≡ Some v → (v ≡ a) ⊎ (w ≡ a) → (is_mutual s a v || (nat_eq v a && married s a)) ≡ true
point_parts_both s a v w good at back h7 = grind (arith, or_right, and_from, eq-eqb, married_from, or_left, mutual_from)

point_same : (s : State) (a : ℕ) (target : Option ℕ) (v w : ℕ) → IsState s → pointer s v ≡ Some w → pointer s w ≡ Some v → is_parted s (Point a target) v ≡ false → (v ≡ a) ⊎ (w ≡ a) → target ≡ pointer s a
point_same s a target v w good at back kept ends = grind (arith, true≢false, point_parts_both, points_true, and_from, not_from_false, cases_Bool)

-- a null pointer that is set hits its node
point_null : (s : State) (a : ℕ) (target : Option ℕ) (v : ℕ) → pointer s v ≡ None → v ≡ a → is_hit s (Point a target) v ≡ false → target ≡ None
point_null s a target v null va calm = grind (arith, true≢false, and_from, eq-eqb, not_from_false, null_unmarried, false_from_ne_true, none-some, points_true)

point_mild : (t : RuleTable) (s : State) (a : ℕ) (target : Option ℕ) → IsState s → IsTrue (present s.network a) → IsMild t s (Point a target) (after_point s a target)
point_mild t s a target good has_a = grind (arith, point_same, cases_eq, point_null, pointer-with_pointer_other, pointer-with_pointer_same, present_range)

-- ---- flag

right_value : (m value : Bool) → cond m (not value) value ≡ false → value ≡ m
right_value m value h = grind arith

flag_mild : (t : RuleTable) (s : State) (a : ℕ) (value : Bool) → IsState s → IsTrue t.flags → IsTrue (present s.network a) → IsMild t s (Flag a value) (after_flag s a value)
flag_mild t s a value good uses has_a = grind (arith, right_value, flag-with_flag_other, cases_eq, flag-with_flag_same, present_range, true≢false, eq-eqb, and_cases)

-- ---- join

join_mild : (t : RuleTable) (s : State) (a : ℕ) → IsMild t s (Join a) (after_join s a)
join_mild t s a = grind arith

-- ---- leave

-- a node present then is not the one that left
pub left_behind : (net : Network) (a v : ℕ) → IsTrue (present (without_node net a) v) → v ≡ a → ⊥
left_behind net a v has va =
    let row = (and_parts _ _ (and_parts _ _ has).1).1 in
    true≢false (sym row ∙ ap (λ x. get_or ((without_node net a).here) x false) va ∙ lowered (record { pointers = []; flags = net.here }) a)

leave_stays : (r : Registers) (a x : ℕ) → (x ≡ a → ⊥) → is_at (pointer_of r x) a ≡ false → pointer_of (without_name r a) x ≡ pointer_of r x
leave_stays r a x apart away =
    get_or-set_other (map (unless_at a) r.pointers) a x None None apart
    ∙ get_or-map (unless_at a) r.pointers x None
    ∙ ap (λ t. cond t None (pointer_of r x)) away

leave_mild : (t : RuleTable) (s : State) (a : ℕ) → IsMild t s (Leave a) (after_leave s a)
leave_mild t s a = grind (arith, true≢false, mutual_from, leave_stays, same_Some, nothing_left, none-some, left_pointer, and_parts, contains-without, get_or-set_other, left_behind, false_from_ne_true, some_from_is_at)

-- ---- any of them

pub accepted_mild : (t : RuleTable) (s : State) (n : ℕ) (event : Event) (s' : State) → IsState s → refusal_of t s event ≡ None → Does t s n event Accepted s' → IsMild t s event s'
accepted_mild t s n (Link a b) s' good e does = subst (IsMild t s (Link a b)) (sym does) (link_mild t s a b)
accepted_mild t s n (Unlink a b) s' good e does = subst (IsMild t s (Unlink a b)) (sym does) (unlink_mild t s a b)
accepted_mild t s n (Point a target) s' good e does = subst (IsMild t s (Point a target)) (sym does) (point_mild t s a target good (point_parts t s a target e).0)
accepted_mild t s n (Flag a value) s' good e does = grind (arith, true_from_not, cond_none, flag_mild, flagged_present)
accepted_mild t s n (Join a) s' good e does = subst (IsMild t s (Join a)) (sym does) (join_mild t s a)
accepted_mild t s n (Leave a) s' good e does = subst (IsMild t s (Leave a)) (sym does) (leave_mild t s a)
accepted_mild t s n event s' good e does = absurd does
