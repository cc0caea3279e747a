-- A counter of rounds after one more entry.
use Rattle.enabled_set.specs.RemovedNames.{AreNoted, RemovedNames}
use Rattle.rule_engine.proofs.Prelude.{◌≡◌, ◌∙◌, ◌≢◌, ℕ, ◌+◌, ◌<◌, ◌≤◌, Bool, false, cond, List, [], ◌∷◌, ◌++◌, length, All-push, Option, None, Some, IsTrue, refl, sym, ap, subst, arith, Moved, Event, Reply, Accepted, Refused, Moves, State, IsState, RuleTable, Answers, spent_after, Entry, Moment, Run, Does, AnswersBy, refusal_of, Refusal, Step, false≢true, run_add, followed, answer_followed, enabled_names, members, IsUndisturbed, RoundCount, count_of_log, counted_whole, rounds_in, rounds_of, next_count, HasCounted, CanCount, count_in, is_step, log_after, start_after, RoundCounter, CountsRun}

-- what the counter says of an entry that led to this state
abbrev pub CountsTo : RuleTable → State → Event → Reply → State → RoundCounter → RoundCounter → Type 0
CountsTo t s event reply next old new = (start : State) (log : List Entry) → CanCount reply old → HasCounted t start log s old → HasCounted t (start_after start reply next) (log_after log event reply) next new

-- the state after an answer is the one that its reply tells
pub counts_to : (t : RuleTable) (e : List Bool) (removed : RemovedNames) (m : Moment) (event : Event) (reply : Reply) (next : State) (old new : RoundCounter) → Answers t m.state m.spent event reply next → members e ≡ enabled_names t next → (IsTrue (is_step reply) → AreNoted old.pending e removed)
    → ((t : RuleTable) (start : State) (log : List Entry) (s : State) (event : Event) → members e ≡ enabled_names t (followed s event reply) → CanCount reply old → (IsTrue (is_step reply) → AreNoted old.pending e removed) → HasCounted t start log s old → HasCounted t (start_after start reply (followed s event reply)) (log_after log event reply) (followed s event reply) new)
    → CountsTo t m.state event reply next old new
counts_to t e removed m event reply next old new answers is noted clause start log may it =
    subst (λ (u : State). members e ≡ enabled_names t u → HasCounted t (start_after start reply u) (log_after log event reply) u new)
    (answer_followed t m.state m.spent event reply next answers)
    (λ is. clause t start log m.state event is may noted it)
    is

abbrev kind : Reply → ℕ
kind Accepted = 1
kind (Moves moves) = 2
kind reply = 0

not_accepted : (reply : Reply) → kind reply ≢ 1 → reply ≢ Accepted
not_accepted reply is same = is (ap kind same)

-- a step has a move
some_len : (moves : List Moved) → moves ≢ [] → 1 ≤ length moves
some_len [] some = absurd (some refl)
some_len (m ∷ moves) some = omega arith

some_does : (t : RuleTable) (s : State) (n : ℕ) (event : Event) (moves : List Moved) (s' : State) → Does t s n event (Moves moves) s' → 1 ≤ length moves
some_does t s n (Step items) moves s' does = some_len moves does.some
some_does t s n event moves s' does = absurd does

some_by : (t : RuleTable) (s : State) (n : ℕ) (event : Event) (r : Option Refusal) (moves : List Moved) (s' : State) → AnswersBy t s n event r (Moves moves) s' → 1 ≤ length moves
some_by t s n event None moves s' does = some_does t s n event moves s' does
some_by t s n event (Some refusal) moves s' does = absurd (differ does.0)
  where
    differ : Moves moves ≡ Refused refusal → ⊥
    differ same = let one : 2 ≡ 0 = ap kind same in omega (arith, one)

-- a step has a move
pub some_moves : (t : RuleTable) (s : State) (n : ℕ) (event : Event) (moves : List Moved) (s' : State) → Answers t s n event (Moves moves) s' → 1 ≤ length moves
some_moves t s n event moves s' answers = some_by t s n event (refusal_of t s event) moves s' answers

later_moment : (next : Moment) (spent : ℕ) → next.spent ≡ spent → record { state = next.state; spent = spent } ≡ next
later_moment next spent is = ap (λ n. record { state = next.state; spent = n }) (sym is)

-- an entry that is no disturbance
more : (t : RuleTable) (m next : Moment) (event : Event) (reply : Reply) (old new : RoundCounter) → Answers t m.state m.spent event reply next.state → next.spent ≡ spent_after m.spent reply → reply ≢ Accepted → new.rounds ≤ next.spent → (it : CountsRun t m old) → HasCounted t it.start.state (it.log ++ (event, reply) ∷ []) next.state new → CountsRun t next new
more t m next event reply old new answers spent calm few it counted = record {
  start = it.start;
  is_state = it.is_state;
  log = it.log ++ (event, reply) ∷ [];
  run = subst (λ (x : Moment). Run t it.start (it.log ++ (event, reply) ∷ []) x) (later_moment next (spent_after m.spent reply) spent) (run_add t it.start m it.log (event, reply) next.state it.run answers);
  calm = All-push (λ (entry : Entry). entry.1 ≢ Accepted) it.log (event, reply) it.calm calm;
  counted = counted;
  few = few;
}

pub counts_after : (t : RuleTable) (m next : Moment) (event : Event) (reply : Reply) (old new : RoundCounter) → IsState next.state → Answers t m.state m.spent event reply next.state → next.spent ≡ spent_after m.spent reply → next.spent < 4294967296 → (IsTrue (is_step reply) → old.is_new ≡ false) → new.rounds ≤ old.rounds + cond (is_step reply) 1 0 → CountsTo t m.state event reply next.state old new → CountsRun t m old → CountsRun t next new
counts_after t m next event Accepted old new good answers spent fits ready few to it =
    let counted : HasCounted t next.state [] next.state new = to it.start.state it.log (λ step. absurd (false≢true step)) it.counted in
    let none : new.rounds ≡ 0 = counted.rounds in
    record {
      start = record { state = next.state; spent = 0 };
      is_state = good;
      log = [];
      run = sym (later_moment next 0 spent);
      calm = λ k d below. absurd (omega (arith, below));
      counted = counted;
      few = omega (arith, none);
    }
counts_after t m next event (Moves moves) old new good answers spent fits ready few to it =
    let some = some_moves t m.state m.spent event moves next.state answers in
    let before = it.few in
    more t m next event (Moves moves) old new answers spent (not_accepted (Moves moves) (λ e. omega (arith, e))) (omega (arith, few, some, before, spent)) it
    (to it.start.state it.log (λ step. (ready step, omega (arith, some, before, spent, fits))) it.counted)
counts_after t m next event reply old new good answers spent fits ready few to it =
    let before = it.few in
    more t m next event reply old new answers spent (not_accepted reply (λ e. omega (arith, e))) (omega (arith, few, before, spent)) it (to it.start.state it.log (λ step. absurd (false≢true step)) it.counted)

-- ---- the count, as one value

-- a counter that is ready can count the entry: each round has a move
can_count : (t : RuleTable) (m next : Moment) (event : Event) (reply : Reply) (old : RoundCounter) → Answers t m.state m.spent event reply next.state → next.spent ≡ spent_after m.spent reply → next.spent < 4294967296 → (IsTrue (is_step reply) → old.is_new ≡ false) → old.rounds ≤ m.spent → CanCount reply old
can_count t m next event (Moves moves) old answers spent fits ready before step =
    let some = some_moves t m.state m.spent event moves next.state answers in (ready step, omega (arith, some, before, spent, fits))
can_count t m next event reply old answers spent fits ready before step = absurd (false≢true step)

-- the state after an answer is the one that its reply tells
pub count_after : (t : RuleTable) (e : List Bool) (removed : RemovedNames) (m next : Moment) (event : Event) (reply : Reply) (old new : RoundCounter) → Answers t m.state m.spent event reply next.state → next.spent ≡ spent_after m.spent reply → next.spent < 4294967296 → (IsTrue (is_step reply) → old.is_new ≡ false)
    → members e ≡ enabled_names t next.state → (IsTrue (is_step reply) → AreNoted old.pending e removed)
    → ((t : RuleTable) (s : State) (event : Event) → members e ≡ enabled_names t (followed s event reply) → CanCount reply old → (IsTrue (is_step reply) → AreNoted old.pending e removed) → count_in t (followed s event reply) new ≡ next_count t reply (followed s event reply) (count_in t s old))
    → CountsRun t m old → count_in t next.state new ≡ next_count t reply next.state (count_in t m.state old)
count_after t e removed m next event reply old new answers spent fits ready is noted clause it =
    subst (λ (u : State). members e ≡ enabled_names t u → count_in t u new ≡ next_count t reply u (count_in t m.state old))
    (answer_followed t m.state m.spent event reply next.state answers)
    (λ is. clause t m.state event is (can_count t m next event reply old answers spent fits ready it.few) noted)
    is

-- a count of a log without a disturbance tells its rounds
pub exact_rounds : (t : RuleTable) (start : State) (log : List Entry) (counting : Option RoundCount) (rounds : Option ℕ) → rounds ≡ rounds_of counting → IsUndisturbed log → counting ≡ Some (count_of_log t start log) → rounds ≡ Some (rounds_in t start log)
exact_rounds t start log counting rounds told calm is = told ∙ ap rounds_of is ∙ ap (λ (n : ℕ). Some n) (counted_whole t start log calm)
