-- How many pairs one disturbance of a stable network adds or removes. Each pair has two married nodes, so the
-- nodes that are married in one state alone are counted.
use Rattle.silence_laws.proofs.Prelude.{◌≡◌, ℕ, ◌+◌, ◌*◌, ◌≤◌, Bool, true, false, cond, not, ◌&&◌, List, [], ◌∷◌, Option, None, Some, nat_eq, IsTrue, refl, ap, ◌∙◌, subst, ⊎_elim, arith, ◌≢◌, ◌||◌, length, count_by, unwrap_or, sym, inl, inr, ◌⊎◌, true_from_ne_false, cases_Bool, true≢false, and_parts, or_cases, eqb-true, not-true, false_from_ne_true, cases_eq, same_Some, none-some, manne_one, no_nodes, pointer_present, count_within, count_split, count_not, count_among, at_most_one, IsWithoutRepeats, IsIn, count_all, count_into, none_count, once, married_twice, names_len, in_names, names_present, names_without_repeats, IsUndisturbed, answered_mild, run_keeps_network, run_keeps_pair, mutual_is, IsMild, unmarried_null, none_parted, main_node, spared, IsContaining, manne_contains, is_hit, is_parted, parts_a_pair, present_other, still_present, linked_back, linked_apart, married_from, pointer_linked, married_some, null_unmarried, answers_keep, runs_end_in_states, AnswersBy, Answers, manne, linked, names, present, node_count, refusal_of, RuleTable, Entry, Moment, Run, IsStable, mutual_pairs, State, IsState, pointer, points, married, is_mutual, Event, Link, Unlink, Point, Leave, Refusal, Accepted, most_gained, most_lost, nodes_gone, FewAreGained, FewAreLost, ManneMovesArePaid}
use Rattle.silence_laws.proofs.UnreachedNodes.{answer_at}

-- ---- married nodes of two states

pub married_in : (u : State) → IsState u → (x : ℕ) → married u x ≡ true → IsIn x (names u.network)
married_in u good x h = let pair = married_some u x h in in_names u.network x (pointer_present u x pair.0 good pair.1)

-- twice the pairs of one state are at most twice those of another and the nodes married in the first alone
pairs_differ : (s u : State) → IsState s → IsState u → 2 * length (mutual_pairs s) ≤ 2 * length (mutual_pairs u) + count_by (λ x. married s x && not (married u x)) (names s.network)
pairs_differ s u good good' =
    let kept = count_within (λ x. married s x && married u x) (married u) (names s.network) (names u.network) (names_without_repeats s.network) (λ x there h.
    let wed = (and_parts (married s x) (married u x) h).1 in
    (married_in u good' x wed, wed)) in
    omega (arith, married_twice s good, married_twice u good', count_split (married s) (married u) (names s.network), kept)

-- at most two if the test holds, else none
two_if : (b : Bool) (n : ℕ) → n ≤ 2 → (b ≡ false → n ≡ 0) → n ≤ 2 * cond b 1 0
two_if true n few none = few
two_if false n few none = omega (arith, none refl)

-- ---- marked nodes

-- whether the event marks the node: both nodes of a new edge between unmarried nodes, and each parted node
abbrev is_marked : State → Event → ℕ → Bool
is_marked s (Link a b) v = is_hit s (Link a b) v
is_marked s event v = is_parted s event v

-- the nodes that may be marked
abbrev pub marks : State → Event → List ℕ
marks s (Link a b) = a ∷ b ∷ []
marks s (Unlink a b) = a ∷ b ∷ []
marks s (Point a target) = a ∷ unwrap_or (pointer s a) a ∷ []
marks s (Leave a) = unwrap_or (pointer s a) a ∷ []
marks s event = []

-- a partner is the pointer's target
partner_at : (s : State) (a v : ℕ) → is_mutual s a v ≡ true → unwrap_or (pointer s a) a ≡ v
partner_at s a v h = ap (λ o. unwrap_or o a) (mutual_is s a v h).0

point_marks : (s : State) (a v : ℕ) → (is_mutual s a v || (nat_eq v a && married s a)) ≡ true → IsIn v (a ∷ unwrap_or (pointer s a) a ∷ [])
point_marks s a v h = grind (arith, partner_at, eqb-true, and_parts, or_cases)

in_marks : (s : State) (event : Event) (v : ℕ) → is_marked s event v ≡ true → IsIn v (marks s event)
in_marks s (Link a b) v h = grind (arith, eqb-true, or_cases, and_parts)
in_marks s (Unlink a b) v h = grind (arith, eqb-true, or_cases, and_parts)
in_marks s (Point a None) v h = point_marks s a v h
in_marks s (Point a (Some w)) v h = point_marks s a v (and_parts (not (points s.registers a w)) (is_mutual s a v || (nat_eq v a && married s a)) h).1
in_marks s (Leave a) v h = inl (partner_at s a v h)
in_marks s event v h = absurd (true≢false (sym h))

-- a parted node is among them
pub in_parted : (s : State) (event : Event) (v : ℕ) → is_parted s event v ≡ true → IsIn v (marks s event)
in_parted s event v h = grind (arith, in_marks, true≢false)

unmarked_kept : (s : State) (event : Event) (v : ℕ) → is_marked s event v ≡ false → is_parted s event v ≡ false
unmarked_kept s event v h = grind arith

-- of two nodes one is not hit if one is not marked
one_calm : (s : State) (event : Event) (v w : ℕ) → v ≢ w → is_marked s event w ≡ false → (is_hit s event v ≡ false) ⊎ (is_hit s event w ≡ false)
one_calm s event v w apart unmarked = grind arith

marked_few : (s : State) → IsState s → (event : Event) (xs : List ℕ) → IsWithoutRepeats xs → count_by (is_marked s event) xs ≤ 2 * most_gained s event + 1
marked_few s good event xs single = by event (count_among (is_marked s event) xs (marks s event) single (λ x there. in_marks s event x)) (λ calm. none_count (is_marked s event) xs (λ x there. calm x))
  where
    by : (event : Event) → count_by (is_marked s event) xs ≤ length (marks s event) → (((x : ℕ) → is_marked s event x ≡ false) → count_by (is_marked s event) xs ≡ 0) → count_by (is_marked s event) xs ≤ 2 * most_gained s event + 1
    by (Link a b) few none =
        let two = two_if (not (married s a) && not (married s b)) _ few (λ one. none (λ x. ap (λ c. c && (nat_eq x a || nat_eq x b)) one)) in omega (arith, two)
    by (Unlink a b) few none = let two = two_if (is_mutual s a b) _ few (λ one. none (λ x. none_parted s (Unlink a b) x good one)) in omega (arith, two)
    by (Point a target) few none = let two = two_if (parts_a_pair s (Point a target)) _ few (λ one. none (λ x. none_parted s (Point a target) x good one)) in omega (arith, two)
    by (Leave a) few none = few
    by event few none = omega (arith, few)

-- ---- one disturbance, and a run from there

record IsAfter (t : RuleTable) (s : State) (event : Event) (after : State) (end : Moment) : Type 0 where
  good : IsState s
  stable : IsStable t.flags s
  mild : IsMild t s event after
  ends_good : IsState end.state
  network : end.state.network ≡ after.network
  keeps : (v w : ℕ) → pointer after v ≡ Some w → pointer after w ≡ Some v → (pointer end.state v ≡ Some w) × (pointer end.state w ≡ Some v)

is_after : (t : RuleTable) → IsContaining t → (s : State) → IsState s → IsStable t.flags s → (spent : ℕ) (event : Event) (after : State) → Answers t s spent event Accepted after → (log : List Entry) (end : Moment) → Run t (record { state = after; spent = 0 }) log end → IsUndisturbed log → IsAfter t s event after end
is_after t is s good stable spent event after answers log end run calm =
    let good' = answers_keep t is.table s good spent event Accepted after answers in
    let start : Moment = record { state = after; spent = 0 } in
    record {
      good = good;
      stable = stable;
      mild = answered_mild t s spent event after good answers;
      ends_good = runs_end_in_states t is.table start good' log end run;
      network = run_keeps_network t is.inside start log end run calm;
      keeps = run_keeps_pair t is.table is.asks is.inside start good' log end run calm;
    }

module _ (t : RuleTable) (s : State) (event : Event) (after : State) (end : Moment) (is : IsAfter t s event after end) where
  -- ---- pairs that come

  -- a node that was unmarried has a marked partner
  partner_marked : (x w : ℕ) → pointer s x ≡ None → pointer end.state x ≡ Some w → pointer end.state w ≡ Some x → is_marked s event w ≡ true
  partner_marked x w null at back = true_from_ne_false (is_marked s event w) (λ unmarked. by unmarked (pointer s w) refl)
    where
      near : IsTrue (linked after.network w x)
      near = subst (λ net. IsTrue (linked net w x)) is.network (pointer_linked end.state w x is.ends_good back)

      has : IsTrue (present after.network w)
      has = subst (λ net. IsTrue (present net w)) is.network (pointer_present end.state w x is.ends_good back)

      meets : (v y : ℕ) → pointer s v ≡ None → pointer s y ≡ None → is_hit s event v ≡ false → IsTrue (linked after.network v y) → ⊥
      meets v y null other calm link = grind (arith, true≢false, null_unmarried)

      by : is_marked s event w ≡ false → (o : Option ℕ) → pointer s w ≡ o → ⊥
      by unmarked None other =
          ⊎_elim
          (λ calm. meets x w null other calm (linked_back after.network x w ∙ near))
          (λ calm. meets w x other null calm near)
          (one_calm s event x w (linked_apart end.state.network x w is.ends_good.is_network (pointer_linked end.state x w is.ends_good at)) unmarked)
      by unmarked (Some y) was =
          let answer = answer_at t.flags s is.stable w y was in
          let kept = is.mild.pairs w y was answer (unmarked_kept s event w unmarked) (inl has) in
          none-some w (sym null ∙ ap (pointer s) (same_Some x y (sym back ∙ (is.keeps w y kept.0 kept.1).0)) ∙ answer)

  abbrev new : ℕ → Bool
  new x = married end.state x && not (married s x)

  abbrev partner : ℕ → ℕ
  partner x = unwrap_or (pointer end.state x) x

  new_is : (x : ℕ) → new x ≡ true → (pointer end.state (partner x) ≡ Some x) × (is_marked s event (partner x) ≡ true)
  new_is x h =
      let parts = and_parts (married end.state x) (not (married s x)) h in
      let pair = married_some end.state x parts.0 in
      let null = unmarried_null t.flags s x is.good is.stable (not-true (married s x) parts.1) in
      subst (λ w. (pointer end.state w ≡ Some x) × (is_marked s event w ≡ true)) (sym (ap (λ o. unwrap_or o x) pair.1)) (pair.2, partner_marked x pair.0 null pair.1 pair.2)

  few_gained : length (mutual_pairs end.state) ≤ length (mutual_pairs s) + most_gained s event
  few_gained =
      let xs = names end.state.network in
      let single = names_without_repeats end.state.network in
      let gained = count_into new xs partner (is_marked s event) xs single (record {
        lands = λ x there h. in_names end.state.network (partner x) (pointer_present end.state (partner x) x is.ends_good (new_is x h).0);
        passes = λ x there h. (new_is x h).1;
        apart = λ x y there also h k same. same_Some x y (sym (new_is x h).0 ∙ ap (pointer end.state) same ∙ (new_is y k).0);
      }) in
      omega (arith, pairs_differ end.state s is.ends_good is.good, gained, marked_few s is.good event xs single)

  -- ---- pairs that go

  abbrev lost : ℕ → Bool
  lost x = married s x && not (married end.state x)

  -- a pair with no parted node stays
  stays : (x w : ℕ) → pointer s x ≡ Some w → pointer s w ≡ Some x → is_parted s event x ≡ false → is_parted s event w ≡ false → married end.state x ≡ true
  stays x w at back kept also =
      let both = is.mild.pairs x w at back kept (inr also) in
      let still = is.keeps x w both.0 both.1 in
      married_from end.state x w is.ends_good still.0 still.1

  -- a lost node is the event's first node or its partner
  lost_is : (x : ℕ) → lost x ≡ true → (parts_a_pair s event ≡ true) × ((x ≡ main_node event) ⊎ (pointer s (main_node event) ≡ Some x))
  lost_is x h = (true_from_ne_false (parts_a_pair s event) (λ none. gone (none_parted s event x is.good none) (none_parted s event pair.0 is.good none)), ends (cases_eq x (main_node event)) (cases_eq pair.0 (main_node event)))
    where
      parts : (married s x ≡ true) × (not (married end.state x) ≡ true)
      parts = and_parts (married s x) (not (married end.state x)) h

      pair : (w : ℕ) × (pointer s x ≡ Some w) × (pointer s w ≡ Some x)
      pair = married_some s x parts.0

      gone : is_parted s event x ≡ false → is_parted s event pair.0 ≡ false → ⊥
      gone kept also = true≢false (sym (stays x pair.0 pair.1 pair.2 kept also) ∙ not-true (married end.state x) parts.1)

      ends : (x ≡ main_node event) ⊎ (x ≡ main_node event → ⊥) → (pair.0 ≡ main_node event) ⊎ (pair.0 ≡ main_node event → ⊥) → (x ≡ main_node event) ⊎ (pointer s (main_node event) ≡ Some x)
      ends (inl here) other = inl here
      ends (inr apart) (inl there) = inr (ap (pointer s) (sym there) ∙ pair.2)
      ends (inr apart) (inr far) = absurd (gone (spared s event x pair.0 pair.1 apart far) (spared s event pair.0 x pair.2 far apart))

  lost_few : count_by lost (names s.network) ≤ 2 * cond (parts_a_pair s event) 1 0
  lost_few =
      let both = main_node event ∷ unwrap_or (pointer s (main_node event)) 0 ∷ [] in
      two_if (parts_a_pair s event) (count_by lost (names s.network))
      (count_among lost (names s.network) both (names_without_repeats s.network) (λ x there h. ⊎_elim (λ here. inl (sym here)) (λ at. inr (inl (ap (λ o. unwrap_or o 0) at))) (lost_is x h).1))
      (λ none. none_count lost (names s.network) (λ x there. false_from_ne_true (lost x) (λ h. true≢false (sym (lost_is x h).0 ∙ none))))

  -- Of two nodes that are linked at the end one is married then, so at most one of a pair is lost.
  lost_one : IsStable t.flags end.state → end.state.network ≡ s.network → count_by lost (names s.network) ≤ 1
  lost_one settled same =
      ⊎_elim
      (λ wed. at_most_one lost (unwrap_or (pointer s main) 0) (names s.network) (names_without_repeats s.network) (λ x there h. ⊎_elim (λ here. absurd (true≢false (sym wed ∙ ap (married end.state) (sym here) ∙ not-true (married end.state x) (and_parts (married s x) (not (married end.state x)) h).1))) (λ at. sym (ap (λ o. unwrap_or o 0) at)) (lost_is x h).1))
      (λ alone. at_most_one lost main (names s.network) (names_without_repeats s.network) (λ x there h. ⊎_elim (λ here. here) (λ at. absurd (settled.covered main x (subst (λ net. IsTrue (linked net main x)) (sym same) (pointer_linked s main x is.good at)) (null main alone) (null x (not-true (married end.state x) (and_parts (married s x) (not (married end.state x)) h).1)))) (lost_is x h).1))
      (cases_Bool (married end.state main))
    where
      main : ℕ
      main = main_node event

      null : (x : ℕ) → married end.state x ≡ false → pointer end.state x ≡ None
      null x = unmarried_null t.flags end.state x is.ends_good settled

-- ---- the laws

pub few_are_gained : (t : RuleTable) → IsContaining t → FewAreGained t
few_are_gained t is s good stable spent event after answers log end run calm =
    few_gained t s event after end (is_after t is s good stable spent event after answers log end run calm)

pub few_are_lost : (t : RuleTable) → IsContaining t → FewAreLost t
few_are_lost t is s good stable spent event after answers log end run calm settled =
    let then = is_after t is s good stable spent event after answers log end run calm in
    by event after answers then (pairs_differ s end.state good then.ends_good)
  where
    same : (a : ℕ) (target : Option ℕ) (after : State) (r : Option Refusal) → AnswersBy t s spent (Point a target) r Accepted after → after.network ≡ s.network
    same a target after r does = grind arith

    by : (event : Event) (after : State) → Answers t s spent event Accepted after → (then : IsAfter t s event after end) → 2 * length (mutual_pairs s) ≤ 2 * length (mutual_pairs end.state) + count_by (λ x. married s x && not (married end.state x)) (names s.network) → length (mutual_pairs s) ≤ length (mutual_pairs end.state) + most_lost s event
    by (Point a target) after answers then differ =
        let one = lost_one t s (Point a target) after end then settled (then.network ∙ same a target after (refusal_of t s (Point a target)) answers) in omega (arith, differ, one)
    by event after answers then differ = let few = lost_few t s event after end then in omega (arith, differ, few)

-- ---- how many nodes

abbrev is_gone : Event → ℕ → Bool
is_gone (Leave a) v = nat_eq a v
is_gone event v = false

-- a present node is present after it, except for the node that goes
stays_present : (t : RuleTable) (s : State) → IsState s → (spent : ℕ) (event : Event) (after : State) (r : Option Refusal) → AnswersBy t s spent event r Accepted after → (v : ℕ) → IsTrue (present s.network v) → is_gone event v ≡ false → IsTrue (present after.network v)
stays_present t s good spent event after r does v has free = grind (arith, still_present, present_other)

pub nodes_left : (t : RuleTable) (s : State) → IsState s → (spent : ℕ) (event : Event) (after : State) → Answers t s spent event Accepted after → node_count s.network ≤ node_count after.network + nodes_gone event
nodes_left t s good spent event after answers =
    let xs = names s.network in
    let left = count_within (λ v. not (is_gone event v)) (λ v. true) xs (names after.network) (names_without_repeats s.network) (λ v there h. (in_names after.network v (stays_present t s good spent event after (refusal_of t s event) answers v (names_present s.network v there) (not-true (is_gone event v) h)), refl)) in
    omega (arith, count_not (is_gone event) xs, left, count_all (names after.network), names_len s.network, names_len after.network, gone event)
  where
    gone : (event : Event) → count_by (is_gone event) (names s.network) ≤ nodes_gone event
    gone (Leave a) = once a (names s.network) (names_without_repeats s.network)
    gone event = omega (arith, no_nodes (names s.network))

pub manne_moves_are_paid : ManneMovesArePaid
manne_moves_are_paid s good stable spent event after answers log end run calm =
    let paid = manne_one s good stable spent event after answers log end run calm in
    let more = few_are_gained manne manne_contains s good stable spent event after answers log end run calm in
    let nodes = nodes_left manne s good spent event after answers in
    let same = ap node_count (run_keeps_network manne manne_contains.inside (record { state = after; spent = 0 }) log end run calm) in
    omega (arith, paid, more, nodes, same)
