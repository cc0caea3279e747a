-- The reach is not too large: after a disturbance of a stable network no node in it is at rest. One
-- exception, if flags are not used: a node that is parted among married neighbours may be.
use Rattle.containment_laws.proofs.Prelude.{◌≡◌, ◌≢◌, ℕ, Bool, true, false, cond, not, ◌&&◌, ◌||◌, Option, None, Some, is_some, is_none, find, nat_eq, IsTrue, refl, sym, ap, ◌∙◌, subst, inl, inr, ◌⊎◌, ⊎_elim, arith, get_or, eq_by_cmp, true≢false, and_parts, or_cases, or_left, eqb-true, not-true, false_from_ne_true, eq_by_cmp_equiv, get_or-set_other, none-some, same_Some, Event, Link, Unlink, Point, Flag, Join, Leave, Accepted, Network, pair_cmp, edge, linked, neighbours, present, with_edge, State, IsState, points, pointer, flag, married, is_mutual, RuleTable, IsStable, after_link, after_unlink, after_point, after_flag, after_leave, without_pointer, refusal_of, Does, Answers, cond_none, true_from_not, pair_total, contains-insert, still_removed, still_without, edge_ends, IsTable, answers_keep, pointer_present, option_cases, present_range, linked_apart, linked_back, near_some, some_is, married_some, points_from, pointer_linked, married_from, null_unmarried, unanswered_unmarried, if_some_at, pointer-with_pointer_other, pointer-with_pointer_same, flag-with_flag_same, without_pointer_flags, left_pointer, nothing_left, point_parts, flagged_present, is_surrounded, is_at_rest, is_parted, is_hit, ReachIsExact}
use Rattle.containment_laws.proofs.Edits.{mutual_is}
use Rattle.containment_laws.proofs.AtRest.{IsAtRest, rest_is, rest_answered, rest_near}
use Rattle.machine_laws.proofs.Disturbed.{unlink_cuts}
use Rattle.rule_machine.specs.State.{is_at}

-- a pointer that is not answered
abbrev IsUnanswered : State → ℕ → Type 0
IsUnanswered s v = (w : ℕ) × (pointer s v ≡ Some w) × (pointer s w ≢ Some v)

-- what a disturbance of a stable state does to the nodes that it hits and parts
record IsHard (u : Bool) (s : State) (event : Event) (s' : State) : Type 0 where
  busy : (v : ℕ) → is_parted s event v ≡ true → (pointer s' v ≡ None) ⊎ IsUnanswered s' v
  was : (v : ℕ) → is_parted s event v ≡ true → married s v ≡ true
  flags : (v : ℕ) → is_parted s event v ≡ true → flag s' v ≡ flag s v
  edges : (v w : ℕ) → is_parted s event v ≡ true → IsTrue (linked s.network v w) → married s w ≡ false → IsTrue (linked s'.network v w)
  nulls : (v w : ℕ) → is_parted s event v ≡ true → pointer s w ≡ None → pointer s' w ≡ None
  hits : (v : ℕ) → is_hit s event v ≡ true → IsAtRest u s' v → ⊥

-- ---- not at rest

unanswered_busy : (u : Bool) (s : State) (v : ℕ) → IsUnanswered s v → IsAtRest u s v → ⊥
unanswered_busy u s v (w, at, alone) rest = alone (rest_answered u s v w rest at)

lonely_busy : (u : Bool) (s : State) (v w : ℕ) → pointer s v ≡ None → IsTrue (linked s.network v w) → married s w ≡ false → IsAtRest u s v → ⊥
lonely_busy u s v w null near alone rest = true≢false (sym (rest_near u s v w rest null near) ∙ alone)

busy_unmarried : (s : State) (v : ℕ) → (pointer s v ≡ None) ⊎ IsUnanswered s v → married s v ≡ false
busy_unmarried s v (inl null) = null_unmarried s v null
busy_unmarried s v (inr (w, at, alone)) = unanswered_unmarried s v w at alone

-- in a stable state a pointer is answered, and an unmarried node has a null pointer
answer : (u : Bool) (s : State) (v w : ℕ) → IsStable u s → pointer s v ≡ Some w → pointer s w ≡ Some v
answer u s v w stable at = if_some_at (pointer s v) (λ x. pointer s x ≡ Some v) w at (stable.answered v)

pub unmarried_null : (u : Bool) (s : State) (v : ℕ) → IsState s → IsStable u s → married s v ≡ false → pointer s v ≡ None
unmarried_null u s v good stable alone =
    ⊎_elim (λ null. null) (λ some. absurd (true≢false (sym (married_from s v some.0 good some.1 (answer u s v some.0 stable some.1)) ∙ alone))) (option_cases (pointer s v))

-- ---- link

new_edge : (net : Network) (a b : ℕ) → IsTrue (linked (with_edge net a b) a b)
new_edge net a b = contains-insert net.edges (edge a b) (edge a b) ∙ or_left (eq_by_cmp pair_cmp (edge a b) (edge a b)) _ ((eq_by_cmp_equiv pair_total).refl (edge a b))

link_hard : (u : Bool) (s : State) (a b : ℕ) → IsState s → IsStable u s → IsHard u s (Link a b) (after_link s a b)
link_hard u s a b good stable = record {
  busy = λ v h. absurd (true≢false (sym h));
  was = λ v h. absurd (true≢false (sym h));
  flags = λ v h. refl;
  edges = λ v w h. absurd (true≢false (sym h));
  nulls = λ v w h null. null;
  hits = λ v h rest.
      let parts = and_parts (not (married s a) && not (married s b)) (nat_eq v a || nat_eq v b) h in
      let alone = and_parts (not (married s a)) (not (married s b)) parts.0 in
      let low = unmarried_null u s a good stable (not-true (married s a) alone.0) in
      let high = unmarried_null u s b good stable (not-true (married s b) alone.1) in
      ⊎_elim
      (λ va. lonely_busy u (after_link s a b) a b low (new_edge s.network a b) (null_unmarried (after_link s a b) b high) (subst (IsAtRest u (after_link s a b)) (eqb-true v a va) rest))
      (λ vb. lonely_busy u (after_link s a b) b a high (linked_back (with_edge s.network a b) b a ∙ new_edge s.network a b) (null_unmarried (after_link s a b) a low) (subst (IsAtRest u (after_link s a b)) (eqb-true v b vb) rest))
      (or_cases (nat_eq v a) (nat_eq v b) parts.1);
}

-- ---- unlink

unlink_hard : (u : Bool) (s : State) (a b : ℕ) → IsState s → IsHard u s (Unlink a b) (after_unlink s a b)
unlink_hard u s a b good = record {
  busy = λ v h. inl (nothing_left (pointer (after_unlink s a b) v) (gone v h));
  was = λ v h. (paired v h).1;
  flags = λ v h. ap (λ l. get_or l v false) (without_pointer_flags (without_pointer s.registers a b) b a ∙ without_pointer_flags s.registers a b);
  edges = λ v w h near alone.
      let pair = and_parts (is_mutual s a b) (nat_eq v a || nat_eq v b) h in
      let at = mutual_is s a b pair.0 in
      still_removed s.network.edges (edge a b) (edge v w)
      (λ same. ⊎_elim
      (λ p. true≢false (sym (ap (married s) p.1 ∙ married_from s b a good at.1 at.0) ∙ alone))
      (λ p. true≢false (sym (ap (married s) p.1 ∙ married_from s a b good at.0 at.1) ∙ alone))
      (edge_ends a b v w same)) near;
  nulls = λ v w h null. nothing_left (pointer (after_unlink s a b) w) (λ y e. none-some y (sym null ∙ ((unlink_cuts s a b).was w y e).0));
  hits = λ v h. absurd (true≢false (sym h));
}
  where
    paired : (v : ℕ) → is_parted s (Unlink a b) v ≡ true → (((v ≡ a) × (pointer s v ≡ Some b)) ⊎ ((v ≡ b) × (pointer s v ≡ Some a))) × (married s v ≡ true)
    paired v h =
        let pair = and_parts (is_mutual s a b) (nat_eq v a || nat_eq v b) h in
        let at = mutual_is s a b pair.0 in
        ⊎_elim
        (λ va. (inl (eqb-true v a va, ap (pointer s) (eqb-true v a va) ∙ at.0), ap (married s) (eqb-true v a va) ∙ married_from s a b good at.0 at.1))
        (λ vb. (inr (eqb-true v b vb, ap (pointer s) (eqb-true v b vb) ∙ at.1), ap (married s) (eqb-true v b vb) ∙ married_from s b a good at.1 at.0))
        (or_cases (nat_eq v a) (nat_eq v b) pair.1)

    crossed : (p : ℕ → Option ℕ) (v y : ℕ) → p v ≡ Some y → ((nat_eq v a && nat_eq y b) || (nat_eq v b && nat_eq y a)) ≡ false → ((is_at (p a) b && is_at (p b) a) && (nat_eq v a || nat_eq v b)) ≡ true → ⊥
    crossed p v y at off h = grind arith

    gone : (v : ℕ) → is_parted s (Unlink a b) v ≡ true → (y : ℕ) → pointer (after_unlink s a b) v ≡ Some y → ⊥
    gone v h y e = let was = (unlink_cuts s a b).was v y e in crossed (pointer s) v y was.0 was.1 h

-- ---- point

-- the node and its partner are married, and the partner points at the node
point_paired : (s : State) (a v : ℕ) → IsState s → (is_mutual s a v || (nat_eq v a && married s a)) ≡ true → ((pointer s a ≡ Some v) × (pointer s v ≡ Some a)) ⊎ ((v ≡ a) × (married s a ≡ true))
point_paired s a v good h = grind (arith, mutual_is, and_parts, eqb-true, or_cases)

point_married : (s : State) (a v : ℕ) → IsState s → (is_mutual s a v || (nat_eq v a && married s a)) ≡ true → (married s v ≡ true) × (pointer s a ≡ None → ⊥)
point_married s a v good h = grind (arith, married_from, none-some, true≢false, null_unmarried, point_paired)

-- the parts that both kinds of target have in common
module _ (u : Bool) (s : State) (a : ℕ) (target : Option ℕ) (good : IsState s) (has_a : IsTrue (present s.network a)) where
  other : (x : ℕ) → (x ≡ a → ⊥) → pointer (after_point s a target) x ≡ pointer s x
  other x apart = pointer-with_pointer_other s.registers a target x apart

  here : pointer (after_point s a target) a ≡ target
  here = pointer-with_pointer_same s.registers a target (let bounds = present_range s.network a has_a in let len = good.pointers_len in omega (arith, bounds, len))

  null_stays : (w : ℕ) → (pointer s a ≡ None → ⊥) → pointer s w ≡ None → pointer (after_point s a target) w ≡ None
  null_stays w some null = other w (λ wa. some (ap (pointer s) (sym wa) ∙ null)) ∙ null

  -- the partner's pointer is left over
  partner_left : (v : ℕ) → pointer s a ≡ Some v → pointer s v ≡ Some a → (target ≡ Some v → ⊥) → IsUnanswered (after_point s a target) v
  partner_left v at back moved =
      let apart : v ≡ a → ⊥ = λ va. linked_apart s.network a v good.is_network (pointer_linked s a v good at) (sym va) in
      (a, other v apart ∙ back, λ e. moved (sym here ∙ e))

point_null_hard : (u : Bool) (s : State) (a : ℕ) → IsState s → IsTrue (present s.network a) → IsHard u s (Point a None) (after_point s a None)
point_null_hard u s a good has_a = record {
  busy = λ v h. ⊎_elim
      (λ pair. inr (partner_left u s a None good has_a v pair.0 pair.1 (λ e. none-some v e)))
      (λ same. inl (ap (pointer (after_point s a None)) same.0 ∙ here u s a None good has_a))
      (point_paired s a v good h);
  was = λ v h. (point_married s a v good h).0;
  flags = λ v h. refl;
  edges = λ v w h near alone. near;
  nulls = λ v w h null. null_stays u s a None good has_a w (point_married s a v good h).1 null;
  hits = λ v h. absurd (true≢false (sym h));
}

point_some_hard : (u : Bool) (s : State) (a y : ℕ) → IsState s → IsStable u s → IsTrue (present s.network a) → IsTrue (linked s.network a y) → IsHard u s (Point a (Some y)) (after_point s a (Some y))
point_some_hard u s a y good stable has_a near_y = record {
  busy = λ v h.
      let parts = and_parts (not (points s.registers a y)) (is_mutual s a v || (nat_eq v a && married s a)) h in
      ⊎_elim
      (λ pair. inr (partner_left u s a (Some y) good has_a v pair.0 pair.1 (λ e. moved parts.0 (pair.0 ∙ sym e))))
      (λ same. inr (subst (IsUnanswered (after_point s a (Some y))) (sym same.0) (aimed parts.0)))
      (point_paired s a v good parts.1);
  was = λ v h. (point_married s a v good (both v h)).0;
  flags = λ v h. refl;
  edges = λ v w h near alone. near;
  nulls = λ v w h null. null_stays u s a (Some y) good has_a w (point_married s a v good (both v h)).1 null;
  hits = λ v h rest.
      let parts = and_parts (nat_eq v a && not (married s a)) (not (points s.registers a y)) h in
      unanswered_busy u (after_point s a (Some y)) a (aimed parts.1) (subst (IsAtRest u (after_point s a (Some y))) (eqb-true v a (and_parts (nat_eq v a) (not (married s a)) parts.0).0) rest);
}
  where
    both : (v : ℕ) → is_parted s (Point a (Some y)) v ≡ true → (is_mutual s a v || (nat_eq v a && married s a)) ≡ true
    both v h = (and_parts (not (points s.registers a y)) (is_mutual s a v || (nat_eq v a && married s a)) h).1

    moved : not (points s.registers a y) ≡ true → pointer s a ≢ Some y
    moved away at = true≢false (sym (points_from s a y at) ∙ not-true (points s.registers a y) away)

    -- the new target did not point at the node, since it would have been its partner
    aimed : not (points s.registers a y) ≡ true → IsUnanswered (after_point s a (Some y)) a
    aimed away =
        let apart : y ≡ a → ⊥ = λ ya. linked_apart s.network a y good.is_network near_y (sym ya) in
        (y, here u s a (Some y) good has_a, λ e. moved away (answer u s y a stable (sym (other u s a (Some y) good has_a y apart) ∙ e)))

-- ---- flag

wrong_value : (m value : Bool) → cond m (not value) value ≡ true → value ≢ m
wrong_value m value h e = grind arith

flag_hard : (u : Bool) (s : State) (a : ℕ) (value : Bool) → IsState s → IsTrue u → IsTrue (present s.network a) → IsHard u s (Flag a value) (after_flag s a value)
flag_hard u s a value good uses has_a = grind (arith, true≢false, and_parts, wrong_value, eqb-true, flag-with_flag_same, present_range)

-- ---- leave

leave_hard : (u : Bool) (s : State) (a : ℕ) → IsState s → IsHard u s (Leave a) (after_leave s a)
leave_hard u s a good = record {
  busy = λ v h. let at = mutual_is s a v h in
      inl (nothing_left (pointer (after_leave s a) v) (λ y e. let left = left_pointer s.registers a v y e in left.1 (same_Some y a (sym left.2 ∙ at.1))));
  was = λ v h. let at = mutual_is s a v h in married_from s v a good at.1 at.0;
  flags = λ v h. get_or-set_other s.registers.flags a v false false (apart v h);
  edges = λ v w h near alone. let at = mutual_is s a v h in
      still_without s.network a v w (apart v h) (λ wa. true≢false (sym (ap (married s) wa ∙ married_from s a v good at.0 at.1) ∙ alone)) near;
  nulls = λ v w h null. nothing_left (pointer (after_leave s a) w) (λ y e. none-some y (sym null ∙ (left_pointer s.registers a w y e).2));
  hits = λ v h. absurd (true≢false (sym h));
}
  where
    apart : (v : ℕ) → is_mutual s a v ≡ true → v ≡ a → ⊥
    apart v h va = linked_apart s.network a v good.is_network (pointer_linked s a v good (mutual_is s a v h).0) (sym va)

-- ---- any of them

none_hard : (u : Bool) (s : State) (event : Event) (s' : State) → ((v : ℕ) → is_parted s event v ≡ false) → ((v : ℕ) → is_hit s event v ≡ false) → IsHard u s event s'
none_hard u s event s' parts hits = grind (arith, true≢false)

accepted_hard : (t : RuleTable) (s : State) (n : ℕ) (event : Event) (s' : State) → IsState s → IsStable t.flags s → refusal_of t s event ≡ None → Does t s n event Accepted s' → IsHard t.flags s event s'
accepted_hard t s n (Link a b) s' good stable e does = subst (IsHard t.flags s (Link a b)) (sym does) (link_hard t.flags s a b good stable)
accepted_hard t s n (Unlink a b) s' good stable e does = subst (IsHard t.flags s (Unlink a b)) (sym does) (unlink_hard t.flags s a b good)
accepted_hard t s n (Point a None) s' good stable e does = subst (IsHard t.flags s (Point a None)) (sym does) (point_null_hard t.flags s a good (point_parts t s a None e).0)
accepted_hard t s n (Point a (Some y)) s' good stable e does =
    let has = point_parts t s a (Some y) e in
    subst (IsHard t.flags s (Point a (Some y))) (sym does) (point_some_hard t.flags s a y good stable has.0 (has.1 y refl))
accepted_hard t s n (Flag a value) s' good stable e does = grind (arith, true_from_not, cond_none, flag_hard, flagged_present)
accepted_hard t s n (Join a) s' good stable e does = none_hard t.flags s (Join a) s' (λ v. refl) (λ v. refl)
accepted_hard t s n (Leave a) s' good stable e does = subst (IsHard t.flags s (Leave a)) (sym does) (leave_hard t.flags s a good)
accepted_hard t s n event s' good stable e does = absurd does

answered_hard : (t : RuleTable) (s : State) (n : ℕ) (event : Event) (s' : State) → IsState s → IsStable t.flags s → Answers t s n event Accepted s' → IsHard t.flags s event s'
answered_hard t s n event s' good stable answers = grind (arith, accepted_hard)

-- ---- the whole

-- an unmarried neighbour of a node that is not surrounded
not_surrounded : (s : State) (v : ℕ) → is_surrounded s v ≡ false → (w : ℕ) × IsTrue (linked s.network v w) × (married s w ≡ false)
not_surrounded s v h =
    let found = found_at (find (λ x. not (married s x)) (neighbours s.network v)) h in
    let near = near_some s.network (λ x. not (married s x)) v found.0 found.1 in
    (found.0, near.0, not-true (married s found.0) near.1)
  where
    found_at : (o : Option ℕ) → is_none o ≡ false → (x : ℕ) × (o ≡ Some x)
    found_at None e = absurd (true≢false e)
    found_at (Some x) e = (x, refl)

module _ (u : Bool) (s : State) (event : Event) (s' : State) (good : IsState s) (stable : IsStable u s) (hard : IsHard u s event s') where
  flagged_busy : (v : ℕ) → is_parted s event v ≡ true → IsTrue (present s.network v) → IsTrue u → IsAtRest u s' v → ⊥
  flagged_busy v parted has uses rest =
      true≢false (sym (hard.flags v parted ∙ stable.flagged uses v has ∙ hard.was v parted) ∙ rest.right uses ∙ busy_unmarried s' v (hard.busy v parted))

  beside_busy : (v w : ℕ) → is_parted s event v ≡ true → IsTrue (linked s.network v w) → married s w ≡ false → IsAtRest u s' v → ⊥
  beside_busy v w parted near alone rest =
      ⊎_elim
      (λ null. lonely_busy u s' v w null (hard.edges v w parted near alone) (null_unmarried s' w (hard.nulls v w parted (unmarried_null u s w good stable alone))) rest)
      (λ left. unanswered_busy u s' v left rest)
      (hard.busy v parted)

  neighbour_busy : (v w : ℕ) → married s v ≡ false → IsTrue (linked s.network v w) → is_parted s event w ≡ true → IsAtRest u s' v → ⊥
  neighbour_busy v w alone near parted rest =
      let back = hard.edges w v parted (linked_back s.network w v ∙ near) alone in
      lonely_busy u s' v w (hard.nulls w v parted (unmarried_null u s v good stable alone)) (linked_back s'.network v w ∙ back) (busy_unmarried s' w (hard.busy w parted)) rest

pub reach_is_exact : (t : RuleTable) → IsTable t → ReachIsExact t
reach_is_exact t table s good stable spent event after answers v h some =
    let hard = answered_hard t s spent event after good stable answers in
    false_from_ne_true (is_at_rest t.flags after v) (λ at.
    let rest = rest_is t.flags after v (answers_keep t table s good spent event Accepted after answers) at in
    ⊎_elim
    (λ own. ⊎_elim
    (λ hit. hard.hits v hit rest)
    (λ parted. ⊎_elim
    (λ uses. let pair = married_some s v (hard.was v parted) in flagged_busy t.flags s event after good stable hard v parted (pointer_present s v pair.0 good pair.1) uses rest)
    (λ more. ⊎_elim
    (λ kept. true≢false (sym parted ∙ kept))
    (λ open_to. let lone = not_surrounded s v open_to in beside_busy t.flags s event after good stable hard v lone.0 parted lone.1 lone.2 rest)
    more)
    some)
    (or_cases (is_hit s event v) (is_parted s event v) own))
    (λ beside.
    let both = and_parts (not (married s v)) (is_some (find (is_parted s event) (neighbours s.network v))) beside in
    let found = some_is (find (is_parted s event) (neighbours s.network v)) both.1 in
    let near = near_some s.network (is_parted s event) v found.0 found.1 in
    neighbour_busy t.flags s event after good stable hard v found.0 (not-true (married s v) both.0) near.0 near.1 rest)
    (or_cases (is_hit s event v || is_parted s event v) (not (married s v) && is_some (find (is_parted s event) (neighbours s.network v))) h))
