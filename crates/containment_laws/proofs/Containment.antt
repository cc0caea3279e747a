-- A node at rest stays at rest through steps, and through each disturbance that does not reach the node.
use Rattle.containment_laws.proofs.Prelude.{◌≡◌, ◌≢◌, ℕ, true, false, not, ◌&&◌, ◌||◌, List, [], ◌∷◌, Contains, None, Some, is_some, find, IsTrue, refl, sym, ap, ◌∙◌, subst, inl, ⊎_elim, arith, true≢false, and_from, or_parts, or_from, cases_Bool, not_from_false, false_from_ne_true, All-head, All-tail, Event, Reply, Accepted, Moves, linked, neighbours, present, State, IsState, pointer, flag, married, RuleTable, mutual_pairs, Answers, spent_after, Entry, Moment, Run, IsTable, linked_back, linked_present, near_found, pair_from, pair_listed, married_some, married_from, null_unmarried, answers_keep, runs_end_in_states, IsUndisturbed, moves_of, end_of_path, path_entries, IsInside, IsPath, Effect, rests, steps, disturbs, effect, AsksForWork, is_parted, is_hit, is_in_reach, moves_at, has_moved, is_reached_by, is_ever_reached, KeepsRegisters}
use Rattle.containment_laws.proofs.AtRest.{IsAtRest, rest_near, absent_rests}
use Rattle.containment_laws.proofs.Steps.{rest_carries, step_rests, step_keeps_pair}
use Rattle.containment_laws.proofs.Edits.{IsMild, accepted_mild}

-- ---- one disturbance

-- v is not in the reach: v is not hit and not parted, and if v is unmarried none of its neighbours is
-- parted
pub record IsBeyond (s : State) (event : Event) (v : ℕ) : Type 0 where
  pub calm : is_hit s event v ≡ false
  pub kept : is_parted s event v ≡ false
  pub near : married s v ≡ false → IsState s → (w : ℕ) → IsTrue (linked s.network v w) → is_parted s event w ≡ false

pub beyond_is : (s : State) (event : Event) (v : ℕ) → is_in_reach s event v ≡ false → IsBeyond s event v
beyond_is s event v h =
    let outer = or_parts (is_hit s event v || is_parted s event v) (not (married s v) && is_some (find (is_parted s event) (neighbours s.network v))) h in
    let inner = or_parts (is_hit s event v) (is_parted s event v) outer.0 in
    record {
      calm = inner.0;
      kept = inner.1;
      near = λ alone good w there. false_from_ne_true (is_parted s event w) (λ parted.
          let found = near_found s.network (is_parted s event) v w good.is_network there parted in
          true≢false (sym (and_from (not (married s v)) (is_some (find (is_parted s event) (neighbours s.network v))) (not_from_false (married s v) alone) (ap is_some found.1)) ∙ outer.1));
    }

pub mild_weds : (t : RuleTable) (s : State) (event : Event) (s' : State) → IsState s' → IsMild t s event s' → (v : ℕ) → married s v ≡ true → is_parted s event v ≡ false → IsTrue (present s'.network v) → married s' v ≡ true
mild_weds t s event s' good' mild v is kept has =
    let pair = married_some s v is in
    let both = mild.pairs v pair.0 pair.1 pair.2 kept (inl has) in
    married_from s' v pair.0 good' both.0 both.1

-- a node at rest and not in reach is at rest afterwards, with the same registers
mild_rests : (t : RuleTable) (s : State) (event : Event) (s' : State) → IsState s → IsState s' → IsMild t s event s' → (v : ℕ) → IsAtRest t.flags s v → is_in_reach s event v ≡ false → IsTrue (present s'.network v) → IsAtRest t.flags s' v × KeepsRegisters s s' v
mild_rests t s event s' good good' mild v rest out has =
    let beyond = beyond_is s event v out in
    let same_flag = mild.flags v has rest.right beyond.calm in
    let nulls : pointer s v ≡ None → pointer s' v ≡ None = λ null. mild.nulls v null beyond.calm in (
      rest_carries t.flags s s' v rest same_flag
          (λ is. mild_weds t s event s' good' mild v is beyond.kept has)
          nulls
          (λ null w near.
          let has_w = linked_present s'.network w v good'.is_network (linked_back s'.network w v ∙ near) in
          ⊎_elim
          (λ was. mild_weds t s event s' good' mild w (rest_near t.flags s v w rest null was) (beyond.near (null_unmarried s v null) good w was) has_w)
          (λ new. mild_weds t s event s' good' mild w new.0 new.1 has_w)
          (mild.edges v w null beyond.calm near)),
      (
        ⊎_elim
            (λ is. let pair = married_some s v is in (mild.pairs v pair.0 pair.1 pair.2 beyond.kept (inl has)).0 ∙ sym pair.1)
            (λ alone. nulls alone.0 ∙ sym alone.0)
            rest.still,
        same_flag,
      ),
    )

-- what an accepted disturbance does not change
pub answered_mild : (t : RuleTable) (s : State) (n : ℕ) (event : Event) (s' : State) → IsState s → Answers t s n event Accepted s' → IsMild t s event s'
answered_mild t s n event s' good answers = grind (arith, accepted_mild)

-- After an accepted disturbance a node that was at rest and beyond its reach is at rest, with the same
-- registers unless it left.
pub disturbed_rests : (t : RuleTable) → IsTable t → (s : State) → IsState s → (n : ℕ) (event : Event) (s' : State) → Answers t s n event Accepted s' → (v : ℕ) → IsAtRest t.flags s v → is_in_reach s event v ≡ false → IsAtRest t.flags s' v × (IsTrue (present s'.network v) → KeepsRegisters s s' v)
disturbed_rests t table s good n event s' answers v rest out =
    let good' = answers_keep t table s good n event Accepted s' answers in
    let mild = answered_mild t s n event s' good answers in (
      ⊎_elim
          (λ has. (mild_rests t s event s' good good' mild v rest out has).0)
          (λ gone. absent_rests t.flags s' v good' gone)
          (cases_Bool (present s'.network v)),
      λ has. (mild_rests t s event s' good good' mild v rest out has).1,
    )

-- ---- one answer

-- no moves are no move of v
none_moves : (v : ℕ) (reply : Reply) → moves_of reply ≡ 0 → moves_at v reply ≡ false
none_moves v (Moves []) e = refl
none_moves v (Moves (m ∷ moves)) e = absurd (omega (arith, e))
none_moves v reply e = refl

-- without a disturbance no node at rest moves or changes
calm_rests : (t : RuleTable) → AsksForWork t → IsInside t → (s : State) → IsState s → (n : ℕ) (event : Event) (reply : Reply) (s' : State) → Answers t s n event reply s' → reply ≢ Accepted → (v : ℕ) → IsAtRest t.flags s v → (moves_at v reply ≡ false) × IsAtRest t.flags s' v × KeepsRegisters s s' v
calm_rests t asks inside s good n event reply s' answers calm v rest = by_effect (effect t s n event reply s' answers)
  where
    by_effect : Effect t s reply s' → (moves_at v reply ≡ false) × IsAtRest t.flags s' v × KeepsRegisters s s' v
    by_effect (rests same none keeps) = (none_moves v reply none, subst (λ u. IsAtRest t.flags u v) (sym same) rest, (ap (λ u. pointer u v) same, ap (λ u. flag u v) same))
    by_effect (steps items moves is step) =
        let here = step_rests t asks inside s good items moves s' step v rest in
        (ap (moves_at v) is ∙ here.0, here.2, here.1)
    by_effect (disturbs is) = absurd (calm is)

-- and each pair stays
pub calm_keeps_pair : (t : RuleTable) → AsksForWork t → IsInside t → (s : State) → IsState s → (n : ℕ) (event : Event) (reply : Reply) (s' : State) → Answers t s n event reply s' → reply ≢ Accepted → (v w : ℕ) → pointer s v ≡ Some w → pointer s w ≡ Some v → (pointer s' v ≡ Some w) × (pointer s' w ≡ Some v)
calm_keeps_pair t asks inside s good n event reply s' answers calm v w at back = by_effect (effect t s n event reply s' answers)
  where
    by_effect : Effect t s reply s' → (pointer s' v ≡ Some w) × (pointer s' w ≡ Some v)
    by_effect (rests same none keeps) = (ap (λ u. pointer u v) same ∙ at, ap (λ u. pointer u w) same ∙ back)
    by_effect (steps items moves is step) = step_keeps_pair t asks inside s good items moves s' step v w at back
    by_effect (disturbs is) = absurd (calm is)

-- any answer: a node at rest, and not in reach if it is an accepted disturbance, does not move and stays at
-- rest
answer_rests : (t : RuleTable) → IsTable t → AsksForWork t → IsInside t → (s : State) → IsState s → (n : ℕ) (event : Event) (reply : Reply) (s' : State) → Answers t s n event reply s' → (v : ℕ) → IsAtRest t.flags s v → is_reached_by s event reply v ≡ false → (moves_at v reply ≡ false) × IsAtRest t.flags s' v
answer_rests t table asks inside s good n event Accepted s' answers v rest out = (refl, (disturbed_rests t table s good n event s' answers v rest out).0)
answer_rests t table asks inside s good n event reply s' answers v rest out = let here = calm_rests t asks inside s good n event reply s' answers (λ e. cc) v rest in (here.0, here.1)

-- ---- runs without a disturbance

abbrev after_entry : Moment → Entry → State → Moment
after_entry m entry next = record { state = next; spent = spent_after m.spent entry.1 }

-- A node at rest never moves, keeps its registers, and is at rest at the end.
pub run_rests : (t : RuleTable) → IsTable t → AsksForWork t → IsInside t → (start : Moment) → IsState start.state → (log : List Entry) (end : Moment) → Run t start log end → IsUndisturbed log → (v : ℕ) → IsAtRest t.flags start.state v → (has_moved log v ≡ false) × IsAtRest t.flags end.state v × KeepsRegisters start.state end.state v
run_rests t table asks inside start good [] end run calm v rest =
    (refl, subst (λ (m : Moment). IsAtRest t.flags m.state v) (sym run) rest, (ap (λ m. pointer m.state v) run, ap (λ m. flag m.state v) run))
run_rests t table asks inside start good (entry ∷ log) end (next, answers, run) calm v rest =
    let here = calm_rests t asks inside start.state good start.spent entry.0 entry.1 next answers (All-head (λ e. e.1 ≢ Accepted) entry log calm) v rest in
    let later = run_rests t table asks inside (after_entry start entry next) (answers_keep t table start.state good start.spent entry.0 entry.1 next answers) log end run (All-tail (λ e. e.1 ≢ Accepted) entry log calm) v here.1 in
    (or_from (moves_at v entry.1) (has_moved log v) here.0 later.0, later.1, (later.2.0 ∙ here.2.0, later.2.1 ∙ here.2.1))

-- Each pair stays.
pub run_keeps_pair : (t : RuleTable) → IsTable t → AsksForWork t → IsInside t → (start : Moment) → IsState start.state → (log : List Entry) (end : Moment) → Run t start log end → IsUndisturbed log → (v w : ℕ) → pointer start.state v ≡ Some w → pointer start.state w ≡ Some v → (pointer end.state v ≡ Some w) × (pointer end.state w ≡ Some v)
run_keeps_pair t table asks inside start good [] end run calm v w at back = (ap (λ m. pointer m.state v) run ∙ at, ap (λ m. pointer m.state w) run ∙ back)
run_keeps_pair t table asks inside start good (entry ∷ log) end (next, answers, run) calm v w at back =
    let here = calm_keeps_pair t asks inside start.state good start.spent entry.0 entry.1 next answers (All-head (λ e. e.1 ≢ Accepted) entry log calm) v w at back in
    run_keeps_pair t table asks inside (after_entry start entry next) (answers_keep t table start.state good start.spent entry.0 entry.1 next answers) log end run (All-tail (λ e. e.1 ≢ Accepted) entry log calm) v w here.0 here.1

pub run_keeps_pairs : (t : RuleTable) → IsTable t → AsksForWork t → IsInside t → (start : Moment) → IsState start.state → (log : List Entry) (end : Moment) → Run t start log end → IsUndisturbed log → (e : ℕ × ℕ) → Contains (mutual_pairs start.state) e → Contains (mutual_pairs end.state) e
run_keeps_pairs t table asks inside start good log end run calm e there =
    let pair = pair_from start.state e there in
    let kept = run_keeps_pair t table asks inside start good log end run calm e.0 e.1 pair.there pair.back in
    pair_listed end.state e.0 e.1 (runs_end_in_states t table start good log end run) pair.ordered kept.0 kept.1

-- The network stays.
pub run_keeps_network : (t : RuleTable) → IsInside t → (start : Moment) (log : List Entry) (end : Moment) → Run t start log end → IsUndisturbed log → end.state.network ≡ start.state.network
run_keeps_network t inside start [] end run calm = ap (λ m. m.state.network) run
run_keeps_network t inside start (entry ∷ log) end (next, answers, run) calm =
    run_keeps_network t inside (after_entry start entry next) log end run (All-tail (λ e. e.1 ≢ Accepted) entry log calm)
    ∙ by_effect (effect t start.state start.spent entry.0 entry.1 next answers)
  where
    by_effect : Effect t start.state entry.1 next → next.network ≡ start.state.network
    by_effect b0 = grind arith

-- ---- any path

-- A node at rest at the start, and in the reach of no disturbance on the way, never moves and is at rest at
-- the end.
pub path_rests : (t : RuleTable) → IsTable t → AsksForWork t → IsInside t → (start : Moment) → IsState start.state → (path : List (Entry × State)) → IsPath t start path → (v : ℕ) → IsAtRest t.flags start.state v → is_ever_reached start.state path v ≡ false → (has_moved (path_entries path) v ≡ false) × IsAtRest t.flags (end_of_path start.state path) v
path_rests t table asks inside start good [] walk v rest out = (refl, rest)
path_rests t table asks inside start good (((event, reply), s) ∷ path) (answers, walk) v rest out =
    let parts = or_parts (is_reached_by start.state event reply v) (is_ever_reached s path v) out in
    let here = answer_rests t table asks inside start.state good start.spent event reply s answers v rest parts.0 in
    let later = path_rests t table asks inside (record { state = s; spent = spent_after start.spent reply }) (answers_keep t table start.state good start.spent event reply s answers) path walk v here.1 parts.1 in
    (or_from (moves_at v reply) (has_moved (path_entries path) v) here.0 later.0, later.1)
