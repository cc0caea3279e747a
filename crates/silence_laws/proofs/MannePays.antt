-- What an edit or a fault costs a silent network by Manne's rules, if only unmarried neighbours count.
use Rattle.silence_laws.proofs.Prelude.{◌≡◌, ℕ, ◌+◌, ◌*◌, ◌≤◌, Bool, true, false, cond, not, ◌&&◌, List, [], ◌∷◌, Option, None, Some, nat_eq, IsTrue, refl, ap, ◌∙◌, subst, ⊎_elim, arith, ◌<◌, ◌||◌, length, count_by, unwrap_or, sym, is_some, and_from, cond-true, cond-false, cases_Bool, true≢false, and_parts, or_left, or_parts, false_from_ne_true, ne_eqb, cases_eq, same_Some, none-some, leave_has, manne_disturbed, point_parts, no_nodes, same_network, IsSubNetwork, WaitsOnly, leave_waits, leave_within, unlink_waits, unlink_within, one_between, manne_charged, moves_are_paid, count_among, count_le, count_or, IsIn, none_count, manne_grows, manne_stable_charge, married_are_pairs, unmarried_charge, names_present, names_without_repeats, edges_contain, manne_table, IsUndisturbed, moves_in, manne_cost, manne_point_cost, degree, all_rest, rest_is_stable, answered_mild, run_keeps_network, disturbed_rests, mild_weds, mutual_is, IsMild, most_if, unmarried_null, none_parted, manne_contains, is_hit, is_parted, parts_a_pair, linked_apart, married_from, pointer_linked, points_from, married_some, null_unmarried, answers_keep, runs_end_in_states, leave_keeps, unlink_keeps, Answers, manne_charge, after_leave, after_point, after_unlink, manne, Network, is_end, linked, names, present, node_count, edge_list, Entry, Moment, Run, IsStable, mutual_pairs, State, IsState, has_suitor, is_unanswered, pointer, points, married, is_mutual, Event, Link, Unlink, Point, Flag, Join, Leave, Accepted, most_gained, most_lost, nodes_gone, single_neighbours, single_neighbours_at, manne_silent_cost, manne_silent_point_cost, ManneSilentCostIsLess, ManneSilentCostPays}
use Rattle.silence_laws.proofs.OpenedEdges.{end_stays, end_wed, is_edge_touched, leave_apart, touched_at_one, touched_at_two, unlink_apart}
use Rattle.silence_laws.proofs.PairCounts.{few_are_gained, few_are_lost, in_parted, marks, nodes_left}
use Rattle.silence_laws.proofs.CostComparison.{partner_less, rewriting_changes_nothing}
use Rattle.silence_laws.proofs.TurnedPointers.{marked_few, waits}
use Rattle.silence_laws.proofs.UnreachedNodes.{accepted, answer_at, none_courted, none_waits, unreached_from}

-- whether both ends of an edge are parted
abbrev pub is_inner : State → Event → ℕ × ℕ → Bool
is_inner s event e = is_parted s event e.0 && is_parted s event e.1

pub manne_silent_grows : (s : State) (event : Event) (s' : State) → IsState s → IsState s' → IsStable true s → IsMild manne s event s' → IsSubNetwork s.network s'.network → (marked : ℕ → Bool) → WaitsOnly (pointer s) (pointer s') marked → ((x : ℕ) → is_hit s event x ≡ false) → manne_charge s' ≤ manne_charge s + 2 * (count_by (is_edge_touched s event) (edge_list s'.network) + count_by (is_inner s event) (edge_list s'.network)) + count_by marked (names s'.network) + 2 * count_by (is_parted s event) (names s'.network)
manne_silent_grows s event s' good good' stable mild within marked waits unhit =
    let weds = mild_weds manne s event s' good' mild in
    let grows = manne_grows s s' within (λ e. is_edge_touched s event e || is_inner s event e) marked (is_parted s event)
    (λ x y there clear was.
    let ends = edges_contain s'.network (x, y) there in
    let both = or_parts (is_edge_touched s event (x, y)) (is_inner s event (x, y)) clear in
    or_left (married s' x || married s' y) _
    (end_stays (married s x) (married s y) (is_parted s event x) (is_parted s event y) (married s' x) (married s' y) (end_wed true s good stable (x, y) (within.edges (x, y) there)) both.0 both.1 (λ wed kept. weds x wed kept (good'.is_network.low_present x y ends)) (λ wed kept. weds y wed kept (good'.is_network.high_present x y ends))))
    waits
    (λ x there kept.
    let has = names_present s'.network x there in
    let had = names_present s.network x (within.nodes x there) in
    ((λ is. weds x is kept has), mild.flags x has (λ uses. stable.flagged uses x had) (unhit x))) in
    omega (arith, grows, count_or (is_edge_touched s event) (is_inner s event) (edge_list s'.network))

-- ---- how many are parted

parted_few : (s : State) (event : Event) (net : Network) → count_by (is_parted s event) (names net) ≤ length (marks s event)
parted_few s event net = count_among (is_parted s event) (names net) (marks s event) (names_without_repeats net) (λ x there. in_parted s event x)

none_inner : (s : State) (event : Event) (es : List (ℕ × ℕ)) → ((x y : ℕ) → IsIn (x, y) es → is_parted s event x ≡ true → is_parted s event y ≡ true → ⊥) → count_by (is_inner s event) es ≡ 0
none_inner s event es apart =
    none_count (is_inner s event) es (λ e there. false_from_ne_true (is_inner s event e) (λ h.
    let both = and_parts (is_parted s event e.0) (is_parted s event e.1) h in
    apart e.0 e.1 there both.0 both.1))

-- ---- an edge goes

unlink_few : (s : State) (a b : ℕ) → IsState s → IsStable true s → IsMild manne s (Unlink a b) (after_unlink s a b) → is_mutual s a b ≡ true → manne_charge (after_unlink s a b) ≤ manne_charge s + (2 * (single_neighbours s a + single_neighbours s b) + 4)
unlink_few s a b good stable mild pair =
    let s' = after_unlink s a b in
    let grows = manne_silent_grows s (Unlink a b) s' good (unlink_keeps s a b good) stable mild (unlink_within s a b) (λ x. false) (unlink_waits s a b) (λ x. refl) in
    let touched = touched_at_two s s' good (unlink_within s a b) (Unlink a b) a b (in_parted s (Unlink a b)) in
    omega (arith, grows, touched, none_inner s (Unlink a b) (edge_list s'.network) (unlink_apart s a b good), no_nodes (names s'.network), parted_few s (Unlink a b) s'.network)

-- ---- a node goes

leave_few : (s : State) (a p : ℕ) → IsState s → IsStable true s → IsTrue (present s.network a) → IsMild manne s (Leave a) (after_leave s a) → pointer s a ≡ Some p → manne_charge (after_leave s a) ≤ manne_charge s + (2 * single_neighbours s p + 2)
leave_few s a p good stable has mild at =
    let s' = after_leave s a in
    let within = leave_within s a good has in
    let grows = manne_silent_grows s (Leave a) s' good (leave_keeps s a good) stable mild within (λ x. false) (leave_waits s a) (λ x. refl) in
    let touched = touched_at_one s s' good within (Leave a) p (λ x h. subst (λ o. IsIn x (unwrap_or o a ∷ [])) at (in_parted s (Leave a) x h)) in
    omega (arith, grows, touched, none_inner s (Leave a) (edge_list s'.network) (leave_apart s a (leave_keeps s a good)), no_nodes (names s'.network), parted_few s (Leave a) s'.network)

-- ---- a pointer of a pair is written

between : (p : ℕ → Bool) (v u x y : ℕ) → x < y → ((z : ℕ) → p z ≡ true → IsIn z (v ∷ u ∷ [])) → (p x && p y) ≡ true → (is_end v (x, y) && is_end u (x, y)) ≡ true
between p v u x y up who h = grind (arith, who x, who y)

turned_few : (s : State) (v u : ℕ) (target : Option ℕ) (good : IsState s) → IsStable true s → (at : pointer s v ≡ Some u) (back : pointer s u ≡ Some v) → (target ≡ Some u → ⊥) → ((w : ℕ) → target ≡ Some w → IsTrue (linked s.network v w)) → IsState (after_point s v target) → IsMild manne s (Point v target) (after_point s v target) → manne_charge (after_point s v target) ≤ manne_charge s + (2 * (single_neighbours s v + single_neighbours s u) + 7 + cond (is_some target) 1 0)
turned_few s v u target good stable at back away near good' mild =
    let s' = after_point s v target in
    let calm : IsStable false s = record { answered = stable.answered; covered = stable.covered; flagged = λ uses. absurd (true≢false (sym uses)) } in
    let within = same_network s.network in
    let grows = manne_silent_grows s (Point v target) s' good good' stable mild within (λ x. (is_some target && nat_eq v x) || nat_eq u x) (waits s v u target good calm at back away near good') (λ x. unhit target x (married_from s v u good at back)) in
    let inner = count_le (is_inner s (Point v target)) (λ e. is_end v e && is_end u e) (edge_list s.network) (λ e there. between (is_parted s (Point v target)) v u e.0 e.1 (good.is_network.low_first e.0 e.1 (edges_contain s.network e there)) who) in
    let own = one_between s.network good.is_network v u (linked_apart s.network v u good.is_network (pointer_linked s v u good at)) in
    omega (arith, grows, marked_few s v u target good calm at back away near good', touched_at_two s s' good within (Point v target) v u who, parted_few s (Point v target) s.network, inner, own)
  where
    who : (x : ℕ) → is_parted s (Point v target) x ≡ true → IsIn x (v ∷ u ∷ [])
    who x h = subst (λ o. IsIn x (v ∷ unwrap_or o v ∷ [])) at (in_parted s (Point v target) x h)

    unhit_by : (a m c : Bool) → m ≡ true → (a && not m && c) ≡ false
    unhit_by a m c wed = grind arith

    unhit : (o : Option ℕ) (x : ℕ) → married s v ≡ true → is_hit s (Point v o) x ≡ false
    unhit None x wed = refl
    unhit (Some w) x wed = unhit_by (nat_eq x v) (married s v) (not (points s.registers v w)) wed

-- ---- a run from there

record IsRun (s : State) (spent : ℕ) (event : Event) (after : State) (log : List Entry) (end : Moment) : Type 0 where
  pub good : IsState s
  pub stable : IsStable true s
  pub answers : Answers manne s spent event Accepted after
  pub run : Run manne (record { state = after; spent = 0 }) log end
  pub calm : IsUndisturbed log

module _ (s : State) (spent : ℕ) (event : Event) (after : State) (log : List Entry) (end : Moment) (is : IsRun s spent event after log end) where
  good_after : IsState after
  good_after = answers_keep manne manne_table s is.good spent event Accepted after is.answers

  -- the moves are what the charge fell by, and the charge left is at least the unmarried nodes
  spent_few : moves_in log + node_count after.network ≤ manne_charge after + 2 * length (mutual_pairs end.state)
  spent_few =
      let start : Moment = record { state = after; spent = 0 } in
      let pairs = married_are_pairs end.state (runs_end_in_states manne manne_table start good_after log end is.run) in
      let same = ap node_count (run_keeps_network manne manne_contains.inside start log end is.run is.calm) in
      omega (arith, moves_are_paid manne 3 manne_table manne_charged start good_after log end is.run is.calm, unmarried_charge end.state, pairs, same)

  gained : length (mutual_pairs end.state) ≤ length (mutual_pairs s) + most_gained s event
  gained = few_are_gained manne manne_contains s is.good is.stable spent event after is.answers log end is.run is.calm

  -- what the charge grew by, the pairs that came and the nodes that went pay for all moves
  manne_few : (cost : ℕ) → manne_charge after ≤ manne_charge s + cost → moves_in log ≤ cost + 2 * most_gained s event + nodes_gone event
  manne_few cost more =
      omega (arith, more, spent_few, manne_stable_charge s is.good is.stable, gained, nodes_left manne s is.good spent event after is.answers)

  -- a network that is stable still makes none
  manne_still : IsStable true after → most_gained s event ≡ 0 → most_lost s event ≡ 0 → moves_in log ≡ 0
  manne_still still none_more none_less =
      let lost = few_are_lost manne manne_contains s is.good is.stable spent event after is.answers [] (record { state = after; spent = 0 }) refl (λ k d low. absurd (omega (arith, low))) still in
      omega (arith, spent_few, manne_stable_charge after good_after still, gained, lost, none_more, none_less)

  manne_unreached : ((v : ℕ) → is_hit s event v ≡ false) → ((v : ℕ) → is_parted s event v ≡ false) → most_gained s event ≡ 0 → most_lost s event ≡ 0 → moves_in log ≡ 0
  manne_unreached unhit kept none_more none_less =
      manne_still
      (rest_is_stable true after good_after (λ v has. (disturbed_rests manne manne_table s is.good spent event after is.answers v (all_rest true s is.good is.stable v) (unreached_from s event unhit kept v)).0))
      none_more none_less

-- ---- each kind

at_most : (c : Bool) → ◌≤◌ (cond c 1 0) 1
at_most c = grind arith

link_pays : (s : State) (spent a b : ℕ) (after : State) (log : List Entry) (end : Moment) → IsRun s spent (Link a b) after log end → moves_in log ≤ manne_silent_cost s (Link a b)
link_pays s spent a b after log end is =
    let singles = not (married s a) && not (married s b) in
    most_if singles (moves_in log) 4
    (λ both. omega (arith, manne_few s spent (Link a b) after log end is 2 (manne_disturbed s is.good spent (Link a b) after is.answers), at_most singles))
    (λ one. manne_unreached s spent (Link a b) after log end is (λ v. ap (λ c. c && (nat_eq v a || nat_eq v b)) one) (λ v. refl) (ap (λ c. cond c 1 0) one) refl)

unlink_pays : (s : State) (spent a b : ℕ) (after : State) (log : List Entry) (end : Moment) → IsRun s spent (Unlink a b) after log end → moves_in log ≤ manne_silent_cost s (Unlink a b)
unlink_pays s spent a b after log end is =
    let most = 2 * (single_neighbours s a + single_neighbours s b) in
    let does = (accepted manne s spent (Unlink a b) after is.answers).1 in
    let mild = subst (IsMild manne s (Unlink a b)) does (answered_mild manne s spent (Unlink a b) after is.good is.answers) in
    let grown = ap manne_charge does in
    let none_more = λ (none : is_mutual s a b ≡ false). ap {B = ℕ} (λ c. cond c 1 0) none in
    most_if (is_mutual s a b) (moves_in log) (most + 6)
    (λ pair.
    let few = unlink_few s a b is.good is.stable mild pair in
    omega (arith, manne_few s spent (Unlink a b) after log end is (most + 4) (omega (arith, few, grown)), at_most (is_mutual s a b)))
    (λ none. manne_unreached s spent (Unlink a b) after log end is (λ v. refl) (λ v. none_parted s (Unlink a b) v is.good none) (none_more none) (none_more none))

leave_pays : (s : State) (spent a : ℕ) (after : State) (log : List Entry) (end : Moment) → IsRun s spent (Leave a) after log end → moves_in log ≤ manne_silent_cost s (Leave a)
leave_pays s spent a after log end is =
    let may = accepted manne s spent (Leave a) after is.answers in
    let mild = subst (IsMild manne s (Leave a)) may.1 (answered_mild manne s spent (Leave a) after is.good is.answers) in
    let grown = ap manne_charge may.1 in
    most_if (married s a) (moves_in log) (2 * single_neighbours_at s (pointer s a) + 3)
    (λ wed.
    let pair = married_some s a wed in
    let few = leave_few s a pair.0 is.good is.stable (leave_has manne s a may.0) mild pair.1 in
    let at = ap (single_neighbours_at s) pair.1 in
    omega (arith, manne_few s spent (Leave a) after log end is (2 * single_neighbours s pair.0 + 2) (omega (arith, few, grown)), at))
    (λ alone. manne_unreached s spent (Leave a) after log end is (λ v. refl) (λ v. none_parted s (Leave a) v is.good alone) refl (ap (λ c. cond c 1 0) alone))

flag_pays : (s : State) (spent a : ℕ) (value : Bool) (after : State) (log : List Entry) (end : Moment) → IsRun s spent (Flag a value) after log end → moves_in log ≤ manne_silent_cost s (Flag a value)
flag_pays s spent a value after log end is =
    most_if (cond (married s a) (not value) value) (moves_in log) 1
    (λ wrong. omega (arith, manne_few s spent (Flag a value) after log end is 1 (omega (arith, manne_disturbed s is.good spent (Flag a value) after is.answers, uncourted value wrong))))
    (λ right. manne_unreached s spent (Flag a value) after log end is (λ v. unhit (nat_eq v a) (cond (married s a) (not value) value) right) (λ v. refl) refl refl)
  where
    unhit : (here wrong : Bool) → wrong ≡ false → (here && wrong) ≡ false
    unhit here wrong right = grind arith

    alone_is : (m : Bool) → cond m false true ≡ true → m ≡ false
    alone_is m h = grind arith

    uncourted : (b : Bool) → cond (married s a) (not b) b ≡ true → cond (b && has_suitor s a) (2 * degree s.network a) 0 ≡ 0
    uncourted false h = refl
    uncourted true h = ap (λ c. cond c (2 * degree s.network a) 0) (none_courted true s is.stable a (unmarried_null true s a is.good is.stable (alone_is (married s a) h)))

point_pays : (s : State) (spent v : ℕ) (o target : Option ℕ) (after : State) (log : List Entry) (end : Moment) → IsRun s spent (Point v target) after log end → pointer s v ≡ o → moves_in log ≤ manne_silent_point_cost s v o target
point_pays s spent v o target after log end is at = by o target at is
  where
    -- as it was
    same : (target : Option ℕ) → IsRun s spent (Point v target) after log end → pointer s v ≡ target → most_gained s (Point v target) ≡ 0 → moves_in log ≡ 0
    same target is at none =
        let again = rewriting_changes_nothing manne s spent v after (subst (λ p. Answers manne s spent (Point v p) Accepted after) (sym at) is.answers) in
        manne_still s spent (Point v target) after log end is (subst (IsStable true) (sym again) is.stable) none refl

    turned : (u : ℕ) (target : Option ℕ) → IsRun s spent (Point v target) after log end → pointer s v ≡ Some u → (target ≡ Some u → ⊥) → moves_in log ≤ 2 * (single_neighbours s v + single_neighbours s u) + 9 + cond (is_some target) 1 0
    turned u target is at away =
        let may = accepted manne s spent (Point v target) after is.answers in
        let mild = subst (IsMild manne s (Point v target)) may.1 (answered_mild manne s spent (Point v target) after is.good is.answers) in
        let good' = subst IsState may.1 (answers_keep manne manne_table s is.good spent (Point v target) Accepted after is.answers) in
        let few = turned_few s v u target is.good is.stable at (answer_at true s is.stable v u at) away (point_parts manne s v target may.0).1 good' mild in
        let grown = ap manne_charge may.1 in
        omega (arith, manne_few s spent (Point v target) after log end is (2 * (single_neighbours s v + single_neighbours s u) + 7 + cond (is_some target) 1 0) (omega (arith, few, grown)), at_most (parts_a_pair s (Point v target)))

    none_parts : (c m : Bool) → m ≡ false → ◌≡◌ {A = ℕ} (cond (c && m) 1 0) 0
    none_parts c m alone = grind arith

    by : (o target : Option ℕ) → pointer s v ≡ o → IsRun s spent (Point v target) after log end → moves_in log ≤ manne_silent_point_cost s v o target
    by None None at is = let none = same None is at (ap (λ c. cond c 1 0) (null_unmarried s v at)) in omega (arith, none)
    by None (Some w) at is =
        let more = manne_disturbed s is.good spent (Point v (Some w)) after is.answers in
        let cost = ap (manne_point_cost s.network v (is_unanswered s v)) at in
        let none = none_parts (not (points s.registers v w)) (married s v) (null_unmarried s v at) in
        omega (arith, manne_few s spent (Point v (Some w)) after log end is 1 (omega (arith, more, cost)), none)
    by (Some u) None at is = let few = turned u None is at (λ e. none-some u e) in omega (arith, few)
    by (Some u) (Some w) at is = ⊎_elim
        (λ equal.
        let aims = at ∙ ap Some equal in
        let none = same (Some w) is aims (ap (λ c. cond (not c && married s v) 1 0) (points_from s v w aims)) in
        omega (arith, none))
        (λ apart.
        let few = turned u (Some w) is at (λ e. apart (sym (same_Some w u e))) in
        let own = cond-false {A = ℕ} (nat_eq u w) 0 (2 * (single_neighbours s v + single_neighbours s u) + 10) (ne_eqb u w apart) in
        omega (arith, few, own))
        (cases_eq u w)

-- what is no disturbance
free_pays : (s : State) (spent : ℕ) (event : Event) (after : State) (log : List Entry) (end : Moment) → IsRun s spent event after log end → manne_cost s event ≡ 0 → most_gained s event ≡ 0 → nodes_gone event ≡ 0 → moves_in log ≤ 0
free_pays s spent event after log end is free none stay =
    let more = manne_disturbed s is.good spent event after is.answers in
    let few = manne_few s spent event after log end is 0 (omega (arith, more, free)) in
    omega (arith, few, none, stay)

pays : (s : State) (spent : ℕ) (event : Event) (after : State) (log : List Entry) (end : Moment) → IsRun s spent event after log end → moves_in log ≤ manne_silent_cost s event
pays s spent (Link a b) after log end is = link_pays s spent a b after log end is
pays s spent (Unlink a b) after log end is = unlink_pays s spent a b after log end is
pays s spent (Leave a) after log end is = leave_pays s spent a after log end is
pays s spent (Point v target) after log end is = point_pays s spent v (pointer s v) target after log end is refl
pays s spent (Flag a value) after log end is = flag_pays s spent a value after log end is
pays s spent (Join a) after log end is = let none = manne_unreached s spent (Join a) after log end is (λ v. refl) (λ v. refl) refl refl in omega (arith, none)
pays s spent event after log end is = free_pays s spent event after log end is refl refl refl

pub manne_silent_cost_pays : ManneSilentCostPays
manne_silent_cost_pays s good stable spent event after answers log end run calm =
    pays s spent event after log end (record { good = good; stable = stable; answers = answers; run = run; calm = calm })

-- ---- and what the table of costs says

point_less : (s : State) → IsState s → IsStable true s → (v : ℕ) (o target : Option ℕ) → pointer s v ≡ o → manne_silent_point_cost s v o target ≤ manne_cost s (Point v target) + 2 * most_gained s (Point v target)
point_less s good stable v None None at = omega arith
point_less s good stable v None (Some w) at = let cost = ap (manne_point_cost s.network v (is_unanswered s v)) at in omega (arith, cost)
point_less s good stable v (Some u) target at = grind (arith, answer_at, none_waits, partner_less, cond-true, married_from, cond-false, and_from, cases_Bool)

pub manne_silent_cost_is_less : ManneSilentCostIsLess
manne_silent_cost_is_less s good stable (Link a b) = grind arith
manne_silent_cost_is_less s good stable (Unlink a b) = grind (arith, mutual_is, partner_less, cond-true, cond-false, cases_Bool)
manne_silent_cost_is_less s good stable (Point v target) = let less = point_less s good stable v (pointer s v) target refl in omega (arith, less)
manne_silent_cost_is_less s good stable (Flag v value) = grind arith
manne_silent_cost_is_less s good stable (Leave a) = grind (arith, married_some, partner_less, cond-true, none_waits, cond-false, cases_Bool)
manne_silent_cost_is_less s good stable event = omega arith
