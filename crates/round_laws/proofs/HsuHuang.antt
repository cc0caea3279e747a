-- By Hsu and Huang's rules the rounds are at most the unmarried nodes.
--
-- A null node with a suitor is enabled until it moves, and then it is in a pair: its suitor can't leave it. So
-- if such a node is pending, the round ends with a new pair. If there is one at all, the next round does.
--
-- When a round begins and no null node has a suitor, all unmarried nodes that point are pending. At its end some
-- null node has a suitor, or all unmarried nodes are null. In the second case the first move of the next round
-- is a seduction of a node that is pending, which marries in that round.
--
-- So a new pair, of two nodes, takes at most two rounds; and a last round without a pair needs an unmarried
-- node.
use Rattle.round_laws.proofs.Prelude.{◌≡◌, ℕ, ◌+◌, ◌-◌, ◌≤◌, true, false, not, ◌&&◌, List, [], find, None, Some, is_some, is_none, IsTrue, refl, sym, ap, ◌∙◌, subst, inl, inr, ◌⊎◌, ⊎_elim, arith, and_from, cases_Bool, true≢false, not_from_false, false_from_ne_true, none-some, Act, Update, Marry, Seduce, Abandon, Moved, Item, linked, names, neighbours, node_count, State, IsState, pointer, married, has_suitor, is_open, enabled_names, hsu_huang, hsu_huang_opens, IsStep, Option, Entry, Moment, Run, option_cases, names_none, names_some, suitor_linked, linked_present, suitor_some, suitor_from, null_unmarried, unanswered_unmarried, married_from, near_found, IsUndisturbed, hsu_huang_asks, one_mover, solo_from, IsSolo, SoloTurn, takes, courts, leaves, IsIn, IsDone, step_done, hsu_huang_inside, hsu_huang_table, null_is, is_mover_in, stuck_from, unmarried_nodes, rounds_in}
use Rattle.round_laws.proofs.Counting.{left, still_pending, in_enabled, silent_or_not, IsRoundBudget, rounds_within}
use Rattle.round_laws.proofs.NewPairs.{unmarried_few, two_unmarried, one_unmarried, pair_or_not}

-- ---- guards that hold

marry_enabled : (s : State) → IsState s → (w u : ℕ) → pointer s w ≡ None → pointer s u ≡ Some w → IsTrue (hsu_huang.guard s w Marry)
marry_enabled s good w u null suits = and_from (is_none (pointer s w)) (has_suitor s w) (null_is (pointer s w) null) (suitor_from s w u good suits)

-- of two linked null nodes either is enabled
facing_enabled : (s : State) → IsState s → (a c : ℕ) → IsTrue (linked s.network a c) → pointer s a ≡ None → pointer s c ≡ None → (act : Act) × IsTrue (hsu_huang.guard s a act)
facing_enabled s good a c near null other =
    ⊎_elim
    (λ suited. let suitor = suitor_some s a suited in (Marry, marry_enabled s good a suitor.0 null suitor.1))
    (λ alone. (Seduce, seduce alone))
    (cases_Bool (has_suitor s a))
  where
    seduce : has_suitor s a ≡ false → IsTrue (hsu_huang.guard s a Seduce)
    seduce alone =
        and_from (is_none (pointer s a) && not (has_suitor s a)) (is_some (find (is_open hsu_huang_opens s) (neighbours s.network a)))
        (and_from (is_none (pointer s a)) (not (has_suitor s a)) (null_is (pointer s a) null) (not_from_false (has_suitor s a) alone))
        (let found = near_found s.network (is_open hsu_huang_opens s) a c good.is_network near (null_is (pointer s c) other) in ap is_some found.1)

-- a null node has a suitor
abbrev IsCourted : State → ℕ → ℕ → Type 0
IsCourted s v u = (pointer s v ≡ None) × (pointer s u ≡ Some v)

courted_or_not : (s : State) → IsState s → ((v : ℕ) × ((u : ℕ) × IsCourted s v u)) ⊎ ((v u : ℕ) → IsCourted s v u → ⊥)
courted_or_not s good =
    ⊎_elim
    (λ none. inr (λ v u is.
    true≢false (sym (marry_enabled s good v u is.0 is.1) ∙ names_none s.network (λ v. hsu_huang.guard s v Marry) none v (linked_present s.network v u good.is_network (suitor_linked s v u good is.1)))))
    (λ some. let asks = hsu_huang_asks.marry s some.0 (names_some s.network (λ v. hsu_huang.guard s v Marry) some.0 some.1).1 in inl (some.0, (asks.1.0, (asks.0, asks.1.1))))
    (option_cases (find (λ v. hsu_huang.guard s v Marry) (names s.network)))

courted_two : (s : State) → IsState s → (v u : ℕ) → IsCourted s v u → 2 ≤ unmarried_nodes s
courted_two s good v u is =
    two_unmarried s good v u (suitor_linked s v u good is.1) (null_unmarried s v is.0) (unanswered_unmarried s u v is.1 (λ back. none-some u (sym is.0 ∙ back)))

-- if no null node has a suitor, an unmarried node that points is enabled
stuck_enabled : (s : State) → IsState s → ((v u : ℕ) → IsCourted s v u → ⊥) → (v w : ℕ) → pointer s v ≡ Some w → (married s v ≡ true) ⊎ IsTrue (hsu_huang.guard s v Abandon)
stuck_enabled s good none v w at =
    ⊎_elim
    (λ wed. inl wed)
    (λ single. inr (stuck_from (pointer s) v w at (λ null. none w v (null, at)) (λ back. true≢false (sym (married_from s v w good at back) ∙ single))))
    (cases_Bool (married s v))

-- ---- what is due

-- in the midst of a round, or at its end if no node is pending
data Due (s : State) (pending : List ℕ) (b : ℕ) : Type 0 where
  -- nothing is known
  wed : unmarried_nodes s + 1 ≤ b → Due s pending b
  -- u is a suitor of v, which is null
  courted : (v u : ℕ) → IsCourted s v u → unmarried_nodes s ≤ b → Due s pending b
  -- and v is pending
  promised : (v u : ℕ) → IsCourted s v u → IsIn v pending → unmarried_nodes s ≤ b + 1 → Due s pending b
  -- each unmarried node that points is pending
  stuck : ((v w : ℕ) → pointer s v ≡ Some w → (married s v ≡ true) ⊎ IsIn v pending) → 1 ≤ unmarried_nodes s → unmarried_nodes s ≤ b → Due s pending b
  -- a round begins, two linked nodes are null, and so are all unmarried ones
  facing : (v w : ℕ) → IsTrue (linked s.network v w) → pointer s v ≡ None → pointer s w ≡ None → ((v w : ℕ) → pointer s v ≡ Some w → married s v ≡ true) → ((v : ℕ) (act : Act) → IsTrue (hsu_huang.guard s v act) → IsIn v pending) → unmarried_nodes s ≤ b + 1 → Due s pending b

-- ---- a step

record Solo (s s' : State) (moves : List Moved) (x : ℕ) : Type 0 where
  before : IsState s
  after : IsState s'
  network : s'.network ≡ s.network
  solo : IsSolo (pointer s) (pointer s') x
  only : (v : ℕ) → (v ≡ x → ⊥) → is_mover_in moves v ≡ false
  pairs : (unmarried_nodes s' + 2 ≤ unmarried_nodes s) ⊎ (((v : ℕ) → married s' v ≡ married s v) × (unmarried_nodes s' ≡ unmarried_nodes s))

solo_of : (s s' : State) (items : List Item) (moves : List Moved) → IsState s → IsStep hsu_huang s items moves s' → (x : ℕ) × Solo s s' moves x
solo_of s s' items moves good step = (
  mover.0,
  record {
    before = good;
    after = done.is_state;
    network = done.network;
    solo = solo_from s s' moves mover.0 good done mover.1 mover.2;
    only = λ v apart. false_from_ne_true (is_mover_in moves v) (λ moved. apart (mover.1 v moved));
    pairs = pair_or_not hsu_huang hsu_huang_asks s s' moves good done;
  },
)
  where
    done : IsDone hsu_huang s s' moves
    done = step_done hsu_huang hsu_huang_inside s good items moves s' step

    mover : (x : ℕ) × ((v : ℕ) → IsTrue (is_mover_in moves v) → v ≡ x) × IsTrue (is_mover_in moves x)
    mover = one_mover moves (step.alone refl)

-- a null node with a suitor stays so, if the mover does not marry
courted_waits : (p p' : ℕ → Option ℕ) (x : ℕ) → IsSolo p p' x → ((w : ℕ) → p x ≡ None → p w ≡ Some x → ⊥) → (v u : ℕ) → p v ≡ None → p u ≡ Some v → (v ≡ x → ⊥) × (p' v ≡ None) × (p' u ≡ Some v)
courted_waits p p' x solo lone v u null suits =
    let there : v ≡ x → ⊥ = λ same. lone u (ap p (sym same) ∙ null) (suits ∙ ap Some same) in
    let suitor : u ≡ x → ⊥ = λ same. by_turn same solo.turn in
    (there, solo.others v there ∙ null, solo.others u suitor ∙ suits)
  where
    by_turn : u ≡ x → SoloTurn p p' x → ⊥
    by_turn same turn = grind arith

module _ (s s' : State) (moves : List Moved) (x : ℕ) (it : Solo s s' moves x) where
  still : (v : ℕ) (pending : List ℕ) (act : Act) → IsIn v pending → (v ≡ x → ⊥) → IsTrue (hsu_huang.guard s' v act) → IsIn v (left hsu_huang moves s' pending)
  still v pending act there apart guard = still_pending hsu_huang moves s' v pending act there (it.only v apart) guard

  -- if no pair is new
  module _ (same : (v : ℕ) → married s' v ≡ married s v) (count : unmarried_nodes s' ≡ unmarried_nodes s) where
    lone : (w : ℕ) → pointer s x ≡ None → pointer s w ≡ Some x → ⊥
    lone w null suits = by_turn it.solo.turn
      where
        by_turn : SoloTurn (pointer s) (pointer s') x → ⊥
        by_turn (takes y gone suitor now) =
            let back = it.solo.others y (λ e. none-some x (sym gone ∙ ap (pointer s) (sym e) ∙ suitor)) ∙ suitor in
            true≢false (sym (married_from s' x y it.after now back) ∙ same x ∙ null_unmarried s x null)
        by_turn (courts y gone none other apart now) = none w suits
        by_turn (leaves y at alone busy now) = none-some y (sym null ∙ at)

    waits : (v u : ℕ) → IsCourted s v u → (v ≡ x → ⊥) × IsCourted s' v u
    waits v u is = let stay = courted_waits (pointer s) (pointer s') x it.solo lone v u is.0 is.1 in (stay.0, (stay.1, stay.2))

    stuck_keeps : (pending : List ℕ) (b : ℕ) → ((v w : ℕ) → pointer s v ≡ Some w → (married s v ≡ true) ⊎ IsIn v pending) → 1 ≤ unmarried_nodes s → unmarried_nodes s ≤ b → Due s' (left hsu_huang moves s' pending) b
    stuck_keeps pending b wait one le =
        ⊎_elim
        (λ some. courted some.0 some.1.0 some.1.1 (omega (arith, count, le)))
        (λ none. stuck (λ v w at. ⊎_elim (λ wed. inl wed) (λ guard. by_turn none v w at guard it.solo.turn) (stuck_enabled s' it.after none v w at)) (omega (arith, count, one)) (omega (arith, count, le)))
        (courted_or_not s' it.after)
      where
        by_turn : ((v u : ℕ) → IsCourted s' v u → ⊥) → (v w : ℕ) → pointer s' v ≡ Some w → IsTrue (hsu_huang.guard s' v Abandon) → SoloTurn (pointer s) (pointer s') x → (married s' v ≡ true) ⊎ IsIn v (left hsu_huang moves s' pending)
        by_turn none v w at guard (takes y gone suitor now) = absurd (lone y gone suitor)
        by_turn none v w at guard (courts y gone alone other apart now) = absurd (none y x (it.solo.others y (λ e. apart (sym e)) ∙ other, now))
        by_turn none v w at guard (leaves y to alone busy now) =
            let apart : v ≡ x → ⊥ = λ e. none-some w (sym now ∙ ap (pointer s') (sym e) ∙ at) in
            ⊎_elim (λ wed. inl (same v ∙ wed)) (λ there. inr (still v pending Abandon there apart guard)) (wait v w (sym (it.solo.others v apart) ∙ at))

    facing_keeps : (pending : List ℕ) (b : ℕ) → ((v w : ℕ) → pointer s v ≡ Some w → married s v ≡ true) → ((v : ℕ) (act : Act) → IsTrue (hsu_huang.guard s v act) → IsIn v pending) → unmarried_nodes s ≤ b + 1 → SoloTurn (pointer s) (pointer s') x → Due s' (left hsu_huang moves s' pending) b
    facing_keeps pending b paired all le (takes y gone suitor now) = absurd (lone y gone suitor)
    facing_keeps pending b paired all le (courts y gone alone other apart now) =
        let away : y ≡ x → ⊥ = λ e. apart (sym e) in
        let null = it.solo.others y away ∙ other in
        let near = subst (λ net. IsTrue (linked net y x)) it.network (suitor_linked s' y x it.after now) in
        let act = facing_enabled s it.before y x near other gone in
        promised y x (null, now) (still y pending Marry (all y act.0 act.1) away (marry_enabled s' it.after y x null now)) (omega (arith, count, le))
    facing_keeps pending b paired all le (leaves y at alone busy now) = absurd (true≢false (sym (paired x y at) ∙ unanswered_unmarried s x y at alone))

    keeps_on : (pending : List ℕ) (b : ℕ) → Due s pending b → Due s' (left hsu_huang moves s' pending) b
    keeps_on pending b (wed le) = wed (omega (arith, count, le))
    keeps_on pending b (courted v u is le) = courted v u (waits v u is).1 (omega (arith, count, le))
    keeps_on pending b (promised v u is there le) =
        let stay = waits v u is in
        promised v u stay.1 (still v pending Marry there stay.0 (marry_enabled s' it.after v u stay.1.0 stay.1.1)) (omega (arith, count, le))
    keeps_on pending b (stuck wait one le) = stuck_keeps pending b wait one le
    keeps_on pending b (facing v w near null other paired all le) = facing_keeps pending b paired all le it.solo.turn

  most : (pending : List ℕ) (b : ℕ) → Due s pending b → unmarried_nodes s ≤ b + 1
  most pending b due = grind arith

  keeps : (pending : List ℕ) (b : ℕ) → Due s pending b → Due s' (left hsu_huang moves s' pending) b
  keeps pending b due =
      ⊎_elim (λ two. let le = most pending b due in wed (omega (arith, two, le))) (λ same. keeps_on same.0 same.1 pending b due) it.pairs

-- ---- rounds begin and end

abbrev Next : State → ℕ → Type 0
Next s b = (enabled_names hsu_huang s ≡ []) ⊎ Due s (enabled_names hsu_huang s) b

enabled_in : (s : State) → IsState s → (v : ℕ) (act : Act) → IsTrue (hsu_huang.guard s v act) → IsIn v (enabled_names hsu_huang s)
enabled_in s good v act guard = in_enabled hsu_huang hsu_huang_inside s good v act guard

begin_promised : (s : State) → IsState s → (b v u : ℕ) → IsCourted s v u → unmarried_nodes s ≤ b + 1 → Next s b
begin_promised s good b v u is le = inr (promised v u is (enabled_in s good v Marry (marry_enabled s good v u is.0 is.1)) le)

begin : (s : State) → IsState s → (b : ℕ) → unmarried_nodes s ≤ b → Next s b
begin s good b le =
    ⊎_elim
    (λ quiet. inl quiet)
    (λ some. ⊎_elim
    (λ is. begin_promised s good b is.0 is.1.0 is.1.1 (omega (arith, le)))
    (λ none. inr (stuck
    (λ v w at. ⊎_elim (λ wed. inl wed) (λ guard. inr (enabled_in s good v Abandon guard)) (stuck_enabled s good none v w at))
    (one_unmarried hsu_huang hsu_huang_inside hsu_huang_asks s good some.0 some.1.0 refl some.1.1) le))
    (courted_or_not s good))
    (silent_or_not hsu_huang s)

-- all unmarried nodes are null
begin_facing : (s : State) → IsState s → (b : ℕ) → ((v w : ℕ) → pointer s v ≡ Some w → married s v ≡ true) → unmarried_nodes s ≤ b + 1 → Next s b
begin_facing s good b paired le = ⊎_elim (λ quiet. inl quiet) (λ some. inr (by_act some.0 some.1.0 some.1.1)) (silent_or_not hsu_huang s)
  where
    by_act : (v : ℕ) (act : Act) → IsTrue (hsu_huang.guard s v act) → Due s (enabled_names hsu_huang s) b
    by_act v Update guard = absurd (true≢false (sym guard))
    by_act v Marry guard =
        let asks = hsu_huang_asks.marry s v guard in
        let u = asks.1.0 in
        absurd (true≢false (sym (paired u v asks.1.1) ∙ unanswered_unmarried s u v asks.1.1 (λ back. none-some u (sym asks.0 ∙ back))))
    by_act v Seduce guard =
        let asks = hsu_huang_asks.seduce s v guard in facing v asks.1.0 asks.1.1 asks.0 asks.1.2 paired (enabled_in s good) le
    by_act v Abandon guard =
        let asks = hsu_huang_asks.abandon s v guard in absurd (true≢false (sym (paired v asks.0 asks.1) ∙ unanswered_unmarried s v asks.0 asks.1 asks.2))

ends : (s : State) → IsState s → (b : ℕ) → Due s [] b → Next s (b - 1)
ends s good b (wed le) = begin s good (b - 1) (omega (arith, le))
ends s good b (courted v u is le) = begin_promised s good (b - 1) v u is (omega (arith, le))
ends s good b (promised v u is there le) = absurd there
ends s good b (stuck wait one le) =
    begin_facing s good (b - 1) (λ v w at. ⊎_elim (λ wed. wed) (λ none. absurd none) (wait v w at)) (omega (arith, le))
ends s good b (facing v w near null other paired all le) = let act = facing_enabled s good v w near null other in absurd (all v act.0 act.1)

some_due : (s : State) → IsState s → (pending : List ℕ) (b : ℕ) → Due s pending b → 1 ≤ b
some_due s good pending b due = grind (arith, courted_two, two_unmarried, null_unmarried)

budget : IsRoundBudget hsu_huang Due
budget = record {
  keeps = λ s pending b items moves s' good step due. let it = solo_of s s' items moves good step in keeps s s' moves it.0 it.1 pending b due;
  ends = λ s b good due. ends s good b due;
  some = λ s pending b good due. some_due s good pending b due;
}

-- ---- the bounds

-- the rounds are at most the nodes that are unmarried at the start, and after as many the network is silent
rounds_from_any : (start : Moment) → IsState start.state → (log : List Entry) (end : Moment) → Run hsu_huang start log end → IsUndisturbed log → (rounds_in hsu_huang start.state log ≤ unmarried_nodes start.state) × (unmarried_nodes start.state ≤ rounds_in hsu_huang start.state log → enabled_names hsu_huang end.state ≡ [])
rounds_from_any start good log end run calm =
    rounds_within hsu_huang Due hsu_huang_table hsu_huang_inside budget start good (enabled_names hsu_huang start.state) (unmarried_nodes start.state) (begin start.state good (unmarried_nodes start.state) (omega arith)) log end run calm

pub rounds_are_paid : (start : Moment) → IsState start.state → (log : List Entry) (end : Moment) → Run hsu_huang start log end → IsUndisturbed log → rounds_in hsu_huang start.state log ≤ unmarried_nodes start.state
rounds_are_paid start good log end run calm = (rounds_from_any start good log end run calm).0

pub rounds_are_few : (start : Moment) → IsState start.state → (log : List Entry) (end : Moment) → Run hsu_huang start log end → IsUndisturbed log → rounds_in hsu_huang start.state log ≤ node_count start.state.network
rounds_are_few start good log end run calm =
    let paid = rounds_are_paid start good log end run calm in
    let few = unmarried_few start.state in
    omega (arith, paid, few)

pub rounds_end_silent : (start : Moment) → IsState start.state → (log : List Entry) (end : Moment) → Run hsu_huang start log end → IsUndisturbed log → unmarried_nodes start.state ≤ rounds_in hsu_huang start.state log → enabled_names hsu_huang end.state ≡ []
rounds_end_silent start good log end run calm enough = (rounds_from_any start good log end run calm).1 enough
