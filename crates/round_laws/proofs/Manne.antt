-- By Manne's rules n nodes have at most n + 2 * (n / 2) rounds, however many nodes move at once.
--
-- A pointer has hope if its target is above its node and not flagged. A first round ends with honest flags: only
-- married nodes are flagged, and that stays. Then a new pair takes at most four rounds: one until all married
-- nodes are flagged, one until each unanswered pointer has hope, one until some pointer does, and one until a
-- pair is made. If some pointer has hope, the highest node that points leads to a null node, which marries next.
-- If no pair is left to come, the first of these four rounds may still come, and the second if a node is
-- unmarried.
--
-- If no node is married at the beginning, honest flags are right, and the first two of the four rounds are not
-- needed. If some nodes are married, there are two fewer to come.
use Rattle.round_laws.proofs.Prelude.{◌≡◌, ℕ, zero, suc, ◌+◌, ◌-◌, ◌*◌, ◌/◌, ◌<◌, ◌≤◌, true, false, not, List, [], None, Some, IsTrue, refl, sym, ap, ◌∙◌, subst, inl, inr, ◌⊎◌, ⊎_elim, arith, cases_lt, cases_Bool, true≢false, false_from_ne_true, none-some, Act, Update, Marry, Seduce, Abandon, Moved, Item, linked, names, node_count, State, IsState, pointer, flag, married, has_suitor, enabled_names, manne, IsStep, Entry, Moment, Run, option_cases, pointer_linked, suitor_linked, linked_apart, linked_present, present_range, suitor_some, null_unmarried, unanswered_unmarried, married_from, IsUndisturbed, manne_asks, manne_inside, manne_table, IsIn, in_names, names_without_repeats, count_all, one_count, IsDone, step_done, is_mover_in, unmarried_nodes, rounds_in}
use Rattle.round_laws.proofs.Counting.{left, still_pending, in_enabled, silent_or_not, IsRoundBudget, rounds_within}
use Rattle.round_laws.proofs.NewPairs.{unmarried_few, two_unmarried, one_unmarried, married_or_not, married_stays, pair_or_not}
use Rattle.round_laws.proofs.JointTurns.{IsJoint, IsHonest, IsRight, IsSorted, honest_then, raised_was, hope_stays, unset_was, right_then, idle_was, hope_begins, sorted_then, courted_stays}
use Rattle.round_laws.proofs.ManneGuards.{wrong_enabled, marry_enabled, seduce_enabled, abandon_enabled, abandon_is, seduce_is, joint_turn}

-- u + 2 * (u / 2): four rounds for each pair that u unmarried nodes can form, and one for a node that is left
abbrev cost : ℕ → ℕ
cost u = u + 2 * (u / 2)

-- ---- what is due

abbrev Honest : State → Type 0
Honest s = IsHonest (married s) (flag s)

abbrev Right : State → Type 0
Right s = IsRight (married s) (flag s)

abbrev Sorted : State → List ℕ → Type 0
Sorted s pending = IsSorted (pointer s) (married s) (flag s) pending

-- in the midst of a round, or at its end if no node is pending
data Due (s : State) (pending : List ℕ) (b : ℕ) : Type 0 where
  -- each node that is flagged and not married is pending
  raised : ((v : ℕ) → flag s v ≡ true → married s v ≡ false → IsIn v pending) → ((v : ℕ) → married s v ≡ false) ⊎ (cost (unmarried_nodes s) + 2 ≤ b) → cost (unmarried_nodes s) ≤ b → 1 ≤ b → Due s pending b
  -- nothing but honest flags is known
  wed : Honest s → cost (unmarried_nodes s) + 2 ≤ b → Due s pending b
  -- each married node that is not flagged is pending
  unset : Honest s → ((v : ℕ) → married s v ≡ true → flag s v ≡ false → IsIn v pending) → cost (unmarried_nodes s) + 1 ≤ b → Due s pending b
  -- pointers without hope are given up
  hopeless : Right s → Sorted s pending → cost (unmarried_nodes s) ≤ b → 1 ≤ b → Due s pending b
  -- v is null and pending, and w above it is null or its suitor
  facing : (v w : ℕ) → Right s → Sorted s pending → IsTrue (linked s.network v w) → v < w → pointer s v ≡ None → (pointer s w ≡ None) ⊎ (pointer s w ≡ Some v) → IsIn v pending → cost (unmarried_nodes s) ≤ b + 1 → Due s pending b
  -- a pointer has hope
  hoping : (v w : ℕ) → Right s → Sorted s pending → pointer s v ≡ Some w → married s v ≡ false → v < w → flag s w ≡ false → cost (unmarried_nodes s) ≤ b + 1 → Due s pending b
  -- u is a suitor of v, which is null and pending
  promised : (v u : ℕ) → Right s → Sorted s [] → pointer s v ≡ None → pointer s u ≡ Some v → IsIn v pending → cost (unmarried_nodes s) ≤ b + 2 → Due s pending b

-- the suitor of a null node is not married
suitor_single : (s : State) (v u : ℕ) → pointer s v ≡ None → pointer s u ≡ Some v → married s u ≡ false
suitor_single s v u null suits = unanswered_unmarried s u v suits (λ back. none-some u (sym null ∙ back))

-- a null node is enabled if a node above it is null or its suitor
facing_enabled : (s : State) → IsState s → Right s → (v w : ℕ) → IsTrue (linked s.network v w) → v < w → pointer s v ≡ None → (pointer s w ≡ None) ⊎ (pointer s w ≡ Some v) → (act : Act) × IsTrue (manne.guard s v act)
facing_enabled s good right v w near up null (inr suits) = (Marry, marry_enabled s good v w (right v) null suits)
facing_enabled s good right v w near up null (inl free) =
    ⊎_elim
    (λ suited. let suitor = suitor_some s v suited in (Marry, marry_enabled s good v suitor.0 (right v) null suitor.1))
    (λ alone. (Seduce, seduce_enabled s good v w (right v) near up null alone free (right w ∙ null_unmarried s w free)))
    (cases_Bool (has_suitor s v))

-- so is an unmarried node that points without hope
hopeless_enabled : (s : State) → IsState s → Right s → (v w : ℕ) → pointer s v ≡ Some w → married s v ≡ false → (flag s w ≡ true) ⊎ (w ≤ v) → IsTrue (manne.guard s v Abandon)
hopeless_enabled s good right v w at single lost =
    abandon_enabled s v w (right v) at (λ back. true≢false (sym (married_from s v w good at back) ∙ single)) lost

-- ---- a step

record Joint (s s' : State) (moves : List Moved) : Type 0 where
  after : IsState s'
  network : s'.network ≡ s.network
  joint : IsJoint (pointer s) (pointer s') (married s) (married s') (flag s) (flag s') (is_mover_in moves)
  pairs : (unmarried_nodes s' + 2 ≤ unmarried_nodes s) ⊎ (((v : ℕ) → married s' v ≡ married s v) × (unmarried_nodes s' ≡ unmarried_nodes s))

joint_of : (s s' : State) (items : List Item) (moves : List Moved) → IsState s → IsStep manne s items moves s' → Joint s s' moves
joint_of s s' items moves good step = record {
  after = done.is_state;
  network = done.network;
  joint = record {
    turns = λ v. joint_turn s s' moves v good (done.deeds v);
    weds = λ v w at back. married_from s' v w done.is_state at back;
    stays = married_stays manne manne_asks s s' moves good done;
  };
  pairs = pair_or_not manne manne_asks s s' moves good done;
}
  where
    done : IsDone manne s s' moves
    done = step_done manne manne_inside s good items moves s' step

module _ (s s' : State) (moves : List Moved) (it : Joint s s' moves) where
  still : (v : ℕ) (pending : List ℕ) (act : Act) → IsIn v pending → is_mover_in moves v ≡ false → IsTrue (manne.guard s' v act) → IsIn v (left manne moves s' pending)
  still v pending act there idle guard = still_pending manne moves s' v pending act there idle guard

  raised_keeps : (pending : List ℕ) → ((v : ℕ) → flag s v ≡ true → married s v ≡ false → IsIn v pending) → (v : ℕ) → flag s' v ≡ true → married s' v ≡ false → IsIn v (left manne moves s' pending)
  raised_keeps pending wait v on single =
      let was = raised_was it.joint v on single in
      still v pending Update (wait v was.1 was.2) was.0 (wrong_enabled s' v (on ∙ sym (ap not single)))

  -- if no pair is new
  module _ (same : (v : ℕ) → married s' v ≡ married s v) (count : unmarried_nodes s' ≡ unmarried_nodes s) where
    sorted_keeps : (pending : List ℕ) → Right s → Sorted s pending → Sorted s' (left manne moves s' pending)
    sorted_keeps pending right sorted =
        sorted_then it.joint same right pending (left manne moves s' pending)
        (λ v w there idle now single lost. still v pending Abandon there idle (hopeless_enabled s' it.after (right_then it.joint same right) v w now single lost)) sorted

    facing_keeps : (pending : List ℕ) (b v w : ℕ) → Right s → Sorted s pending → IsTrue (linked s.network v w) → v < w → pointer s v ≡ None → (pointer s w ≡ None) ⊎ (pointer s w ≡ Some v) → IsIn v pending → cost (unmarried_nodes s) ≤ b + 1 → Due s' (left manne moves s' pending) b
    facing_keeps pending b v w right sorted near up null high there le =
        ⊎_elim
        (λ stays. ⊎_elim
        (λ free. on stays (inl free))
        (λ some. ⊎_elim
        (λ kept. on stays (inr (kept ∙ was_suitor some.0 (sym kept ∙ some.1) high)))
        (λ new. hoping w some.0 right' (sorted_keeps pending right sorted) some.1 (same w ∙ null_unmarried s w new.0) new.1 new.2 (omega (arith, count, le)))
        (hope_begins it.joint same right w some.0 some.1))
        (option_cases (pointer s' w)))
        (λ some. ⊎_elim
        (λ kept. absurd (none-some some.0 (sym null ∙ sym kept ∙ some.1)))
        (λ new. hoping v some.0 right' (sorted_keeps pending right sorted) some.1 (same v ∙ null_unmarried s v null) new.1 new.2 (omega (arith, count, le)))
        (hope_begins it.joint same right v some.0 some.1))
        (option_cases (pointer s' v))
      where
        right' : Right s'
        right' = right_then it.joint same right

        was_suitor : (z : ℕ) → pointer s w ≡ Some z → (pointer s w ≡ None) ⊎ (pointer s w ≡ Some v) → pointer s w ≡ Some v
        was_suitor z at (inl free) = absurd (none-some z (sym free ∙ at))
        was_suitor z at (inr suits) = suits

        on : pointer s' v ≡ None → (pointer s' w ≡ None) ⊎ (pointer s' w ≡ Some v) → Due s' (left manne moves s' pending) b
        on stays high' =
            let near' = subst (λ net. IsTrue (linked net v w)) (sym it.network) near in
            let act = facing_enabled s' it.after right' v w near' up stays high' in
            facing v w right' (sorted_keeps pending right sorted) near' up stays high'
            (still v pending act.0 there (idle_was it.joint same right v (stays ∙ sym null)) act.1) (omega (arith, count, le))

    keeps_on : (pending : List ℕ) (b : ℕ) → Due s pending b → Due s' (left manne moves s' pending) b
    keeps_on pending b (raised wait how le one) =
        raised (raised_keeps pending wait) (⊎_elim (λ alone. inl (λ v. same v ∙ alone v)) (λ more. inr (omega (arith, count, more))) how) (omega (arith, count, le)) one
    keeps_on pending b (wed honest le) = wed (honest_then it.joint honest) (omega (arith, count, le))
    keeps_on pending b (unset honest wait le) =
        unset (honest_then it.joint honest)
        (λ v wed off. let was = unset_was it.joint same v wed off in still v pending Update (wait v was.1 was.2) was.0 (wrong_enabled s' v (off ∙ sym (ap not wed))))
        (omega (arith, count, le))
    keeps_on pending b (hopeless right sorted le one) = hopeless (right_then it.joint same right) (sorted_keeps pending right sorted) (omega (arith, count, le)) one
    keeps_on pending b (facing v w right sorted near up null high there le) = facing_keeps pending b v w right sorted near up null high there le
    keeps_on pending b (hoping v w right sorted at single up off le) =
        let right' = right_then it.joint same right in
        hoping v w right' (sorted_keeps pending right sorted) (hope_stays it.joint v w at up off) (same v ∙ single) up (right' w ∙ same w ∙ sym (right w) ∙ off) (omega (arith, count, le))
    keeps_on pending b (promised v u right sorted null suits there le) =
        let right' = right_then it.joint same right in
        let stays = courted_stays it.joint same right sorted v u null suits in
        let waits = ⊎_elim (λ hope. hope_stays it.joint u v suits hope.0 hope.1) (λ none. absurd none) (sorted u v suits (suitor_single s v u null suits)) in
        promised v u right' (sorted_keeps [] right sorted) stays waits
        (still v pending Marry there (idle_was it.joint same right v (stays ∙ sym null)) (marry_enabled s' it.after v u (right' v) stays waits))
        (omega (arith, count, le))

  -- a new pair: honest flags are known at least
  fresh : (pending : List ℕ) (b : ℕ) → Right s → cost (unmarried_nodes s) ≤ b + 2 → unmarried_nodes s' + 2 ≤ unmarried_nodes s → Due s' pending b
  fresh pending b right le two = wed (honest_then it.joint (λ v on. sym (right v) ∙ on)) (omega (arith, two, le))

  new_pair : (pending : List ℕ) (b : ℕ) → unmarried_nodes s' + 2 ≤ unmarried_nodes s → Due s pending b → Due s' (left manne moves s' pending) b
  new_pair pending b two (raised wait how le one) = raised (raised_keeps pending wait) (inr (omega (arith, two, le))) (omega (arith, two, le)) one
  new_pair pending b two (wed honest le) = wed (honest_then it.joint honest) (omega (arith, two, le))
  new_pair pending b two (unset honest wait le) = wed (honest_then it.joint honest) (omega (arith, two, le))
  new_pair pending b two (hopeless right sorted le one) = fresh (left manne moves s' pending) b right (omega (arith, le)) two
  new_pair pending b two (facing v w right sorted near up null high there le) = fresh (left manne moves s' pending) b right (omega (arith, le)) two
  new_pair pending b two (hoping v w right sorted at single up off le) = fresh (left manne moves s' pending) b right (omega (arith, le)) two
  new_pair pending b two (promised v u right sorted null suits there le) = fresh (left manne moves s' pending) b right le two

  keeps : (pending : List ℕ) (b : ℕ) → Due s pending b → Due s' (left manne moves s' pending) b
  keeps pending b due = ⊎_elim (λ two. new_pair pending b two due) (λ same. keeps_on same.0 same.1 pending b due) it.pairs

-- ---- a round begins

abbrev Next : State → ℕ → Type 0
Next s b = (enabled_names manne s ≡ []) ⊎ Due s (enabled_names manne s) b

enabled_in : (s : State) → IsState s → (v : ℕ) (act : Act) → IsTrue (manne.guard s v act) → IsIn v (enabled_names manne s)
enabled_in s good v act guard = in_enabled manne manne_inside s good v act guard

begin_raised : (s : State) → IsState s → (b : ℕ) → ((v : ℕ) → married s v ≡ false) ⊎ (cost (unmarried_nodes s) + 2 ≤ b) → cost (unmarried_nodes s) ≤ b → 1 ≤ b → Next s b
begin_raised s good b how le one = inr (raised (λ v on single. enabled_in s good v Update (wrong_enabled s v (on ∙ sym (ap not single)))) how le one)

begin_unset : (s : State) → IsState s → (b : ℕ) → Honest s → cost (unmarried_nodes s) + 1 ≤ b → Next s b
begin_unset s good b honest le = inr (unset honest (λ v wed off. enabled_in s good v Update (wrong_enabled s v (off ∙ sym (ap not wed)))) le)

-- all flags are right
module _ (s : State) (good : IsState s) (right : Right s) where
  no_update : (v : ℕ) → manne.guard s v Update ≡ false
  no_update v = false_from_ne_true (manne.guard s v Update) (λ guard. (manne_asks.update s v guard).1 (right v))

  begin_sorted : Sorted s (enabled_names manne s)
  begin_sorted v w at single =
      by_lost (cases_lt v w) (cases_Bool (flag s w)) (λ lost. enabled_in s good v Abandon (hopeless_enabled s good right v w at single lost))
    where
      by_lost : (v < w) ⊎ (w ≤ v) → (flag s w ≡ true) ⊎ (flag s w ≡ false) → ((flag s w ≡ true) ⊎ (w ≤ v) → IsIn v (enabled_names manne s)) → ((v < w) × (flag s w ≡ false)) ⊎ IsIn v (enabled_names manne s)
      by_lost up on lost = grind arith

  begin_hopeless : (b : ℕ) → cost (unmarried_nodes s) ≤ b → Next s b
  begin_hopeless b le =
      ⊎_elim
      (λ quiet. inl quiet)
      (λ some. let one = one_unmarried manne manne_inside manne_asks s good some.0 some.1.0 (no_update some.0) some.1.1 in
      inr (hopeless right begin_sorted le (omega (arith, one, le))))
      (silent_or_not manne s)

  -- and no unmarried node points at a married one
  module _ (b : ℕ) (le : cost (unmarried_nodes s) ≤ b + 1) (sees : (v w : ℕ) → pointer s v ≡ Some w → married s v ≡ false → married s w ≡ false) where
    from_hope : (v w : ℕ) → pointer s v ≡ Some w → married s v ≡ false → v < w → Due s (enabled_names manne s) b
    from_hope v w at single up = hoping v w right begin_sorted at single up (right w ∙ sees v w at single) le

    from_facing : (v w : ℕ) → IsTrue (linked s.network v w) → v < w → pointer s v ≡ None → (pointer s w ≡ None) ⊎ (pointer s w ≡ Some v) → Due s (enabled_names manne s) b
    from_facing v w near up null high =
        let act = facing_enabled s good right v w near up null high in
        facing v w right begin_sorted near up null high (enabled_in s good v act.0 act.1) le

    from_suitor : (v u : ℕ) → pointer s v ≡ None → pointer s u ≡ Some v → Due s (enabled_names manne s) b
    from_suitor v u null suits =
        ⊎_elim
        (λ (up : v < u). from_facing v u (suitor_linked s v u good suits) up null (inr suits))
        (λ (down : u ≤ v). from_hope u v suits (suitor_single s v u null suits) (let apart = linked_apart s.network u v good.is_network (pointer_linked s u v good suits) in omega (arith, down, apart)))
        (cases_lt v u)

    -- a pointer leads down to one that leads up, or to a null node
    descend : (k v w : ℕ) → v ≤ k → pointer s v ≡ Some w → married s v ≡ false → Due s (enabled_names manne s) b
    descend zero v w most at single =
        let low = (present_range s.network v (linked_present s.network v w good.is_network (pointer_linked s v w good at))).0 in absurd (omega (arith, most, low))
    descend (suc k) v w most at single =
        let apart = linked_apart s.network v w good.is_network (pointer_linked s v w good at) in
        ⊎_elim
        (λ (up : v < w). from_hope v w at single up)
        (λ (down : w ≤ v). ⊎_elim (λ null. from_suitor w v null at) (λ some. descend k w some.0 (omega (arith, most, down, apart)) some.1 (sees v w at single)) (option_cases (pointer s w)))
        (cases_lt v w)

    begin_facing : Next s b
    begin_facing = ⊎_elim (λ quiet. inl quiet) (λ some. inr (by_act some.0 some.1.0 some.1.1)) (silent_or_not manne s)
      where
        by_act : (v : ℕ) (act : Act) → IsTrue (manne.guard s v act) → Due s (enabled_names manne s) b
        by_act v Update guard = absurd (true≢false (sym guard ∙ no_update v))
        by_act v Marry guard = let asks = manne_asks.marry s v guard in from_suitor v asks.1.0 asks.0 asks.1.1
        by_act v Seduce guard = let aim = seduce_is s v guard in from_facing v aim.0 aim.1 aim.3 (manne_asks.seduce s v guard).0 (inl aim.2)
        by_act v Abandon guard = let aim = abandon_is s v guard in descend v v aim.0 (omega arith) aim.1 (unanswered_unmarried s v aim.0 aim.1 aim.2)

-- ---- a round ends

-- if no node is pending, each pointer of an unmarried node has hope
hope : (s : State) → Sorted s [] → (v w : ℕ) → pointer s v ≡ Some w → married s v ≡ false → (v < w) × (flag s w ≡ false)
hope s sorted v w at single = ⊎_elim (λ yes. yes) (λ none. absurd none) (sorted v w at single)

-- if each pointer of an unmarried node has hope, one leads up to a null node
climb : (s : State) → IsState s → (b : ℕ) → Right s → Sorted s [] → cost (unmarried_nodes s) ≤ b + 2 → (k v w : ℕ) → s.network.size < w + k → pointer s v ≡ Some w → married s v ≡ false → Due s (enabled_names manne s) b
climb s good b right sorted le zero v w most at single =
    let high = (present_range s.network w (linked_present s.network w v good.is_network (suitor_linked s w v good at))).1 in absurd (omega (arith, most, high))
climb s good b right sorted le (suc k) v w most at single =
    ⊎_elim
    (λ null. promised w v right sorted null at (enabled_in s good w Marry (marry_enabled s good w v (right w) null at)) le)
    (λ some.
    let alone = sym (right w) ∙ (hope s sorted v w at single).1 in
    climb s good b right sorted le k w some.0 (omega (arith, most, (hope s sorted w some.0 some.1 alone).0)) some.1 alone)
    (option_cases (pointer s w))

ends : (s : State) → IsState s → (b : ℕ) → Due s [] b → Next s (b - 1)
ends s good b (raised wait how le one) = ⊎_elim alone (λ more. begin_unset s good (b - 1) honest (omega (arith, more))) how
  where
    honest : Honest s
    honest v on = ⊎_elim (λ wed. wed) (λ single. absurd (wait v on single)) (cases_Bool (married s v))

    alone : ((v : ℕ) → married s v ≡ false) → Next s (b - 1)
    alone single =
        begin_facing s good (λ v. false_from_ne_true (flag s v) (λ on. true≢false (sym (honest v on) ∙ single v)) ∙ sym (single v)) (b - 1) (omega (arith, le, one)) (λ v w at lone. single w)
ends s good b (wed honest le) = begin_unset s good (b - 1) honest (omega (arith, le))
ends s good b (unset honest wait le) = begin_hopeless s good right (b - 1) (omega (arith, le))
  where
    right : Right s
    right v =
        ⊎_elim
        (λ on. on ∙ sym (honest v on))
        (λ off. off ∙ sym (false_from_ne_true (married s v) (λ wed. wait v wed off)))
        (cases_Bool (flag s v))
ends s good b (hopeless right sorted le one) =
    begin_facing s good right (b - 1) (omega (arith, le, one)) (λ v w at single. sym (right w) ∙ (hope s sorted v w at single).1)
ends s good b (facing v w right sorted near up null high there le) = absurd there
ends s good b (hoping v w right sorted at single up off le) =
    let two = two_unmarried s good v w (pointer_linked s v w good at) single (sym (right w) ∙ off) in
    inr (climb s good (b - 1) right sorted (omega (arith, le, two)) (s.network.size + 1) v w (omega arith) at single)
ends s good b (promised v u right sorted null suits there le) = absurd there

some_due : (s : State) → IsState s → (pending : List ℕ) (b : ℕ) → Due s pending b → 1 ≤ b
some_due s good pending b due = grind (arith, two_unmarried, null_unmarried, suitor_single, pointer_linked, suitor_linked)

budget : IsRoundBudget manne Due
budget = record {
  keeps = λ s pending b items moves s' good step due. keeps s s' moves (joint_of s s' items moves good step) pending b due;
  ends = λ s b good due. ends s good b due;
  some = λ s pending b good due. some_due s good pending b due;
}

-- ---- the bounds

begin : (s : State) → IsState s → Next s (cost (node_count s.network))
begin s good = ⊎_elim (λ quiet. inl quiet) (λ some. by_married (some_node some.0 some.1.0 some.1.1)) (silent_or_not manne s)
  where
    some_node : (v : ℕ) (act : Act) → IsTrue (manne.guard s v act) → 1 ≤ node_count s.network
    some_node v act guard =
        let one = one_count (λ x. true) (names s.network) v (in_names s.network v (manne_inside.has s v act good guard)) refl in
        let all = count_all (names s.network) in
        omega (arith, one, all)

    few : unmarried_nodes s ≤ node_count s.network
    few = unmarried_few s

    by_married : 1 ≤ node_count s.network → Next s (cost (node_count s.network))
    by_married one =
        begin_raised s good (cost (node_count s.network))
        (⊎_elim
        (λ (less : unmarried_nodes s + 2 ≤ node_count s.network). inr (omega (arith, less)))
        (λ none. inl none)
        (married_or_not s good))
        (omega (arith, few)) (omega (arith, one))

-- the rounds are at most n + 2 * (n / 2), and after as many the network is silent
rounds_from_any : (start : Moment) → IsState start.state → (log : List Entry) (end : Moment) → Run manne start log end → IsUndisturbed log → (rounds_in manne start.state log ≤ cost (node_count start.state.network)) × (cost (node_count start.state.network) ≤ rounds_in manne start.state log → enabled_names manne end.state ≡ [])
rounds_from_any start good log end run calm =
    rounds_within manne Due manne_table manne_inside budget start good (enabled_names manne start.state) (cost (node_count start.state.network)) (begin start.state good) log end run calm

pub rounds_are_few : (start : Moment) → IsState start.state → (log : List Entry) (end : Moment) → Run manne start log end → IsUndisturbed log → rounds_in manne start.state log ≤ node_count start.state.network + 2 * (node_count start.state.network / 2)
rounds_are_few start good log end run calm = (rounds_from_any start good log end run calm).0

pub rounds_end_silent : (start : Moment) → IsState start.state → (log : List Entry) (end : Moment) → Run manne start log end → IsUndisturbed log → node_count start.state.network + 2 * (node_count start.state.network / 2) ≤ rounds_in manne start.state log → enabled_names manne end.state ≡ []
rounds_end_silent start good log end run calm enough = (rounds_from_any start good log end run calm).1 enough

pub rounds_are_paid : (start : Moment) → IsState start.state → (log : List Entry) (end : Moment) → Run manne start log end → IsUndisturbed log → rounds_in manne start.state log ≤ unmarried_nodes start.state + 2 * (unmarried_nodes start.state / 2) + 3
rounds_are_paid start good log end run calm =
    (rounds_within manne Due manne_table manne_inside budget start good (enabled_names manne start.state) (cost (unmarried_nodes start.state) + 3)
    (begin_raised start.state good (cost (unmarried_nodes start.state) + 3) (inr (omega arith)) (omega arith) (omega arith)) log end run calm).0
