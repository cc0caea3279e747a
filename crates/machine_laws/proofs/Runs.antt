-- Every run ends in a state.
use Rattle.machine_laws.proofs.ChargePrelude.Imports.{◌≡◌, ℕ, ◌⊎◌, inl, inr, ⊎_elim, accepted_state, List, [], ◌∷◌, ◌++◌, Any, Option, None, Some, IsTrue, refl, sym, subst, All-weaker, recursion_from_All, Act, Item, Moved, Event, Step, Refusal, Reply, Moves, present, State, IsState, RuleTable, IsTarget, IsMoveOf, IsStep, refusal_of, Does, AnswersBy, Answers, spent_after, Entry, Moment, Run, IsMoveIn, arith}
use Rattle.machine_laws.proofs.StatePreservation.{moves_keep}
use Rattle.machine_laws.proofs.LeastMoves.{IsTable}
use Rattle.machine_laws.proofs.AcceptedEvents.{IsStepChoice, choice_from_none, taken_at, accepted_keeps}

pub is_target_allowed : (t : RuleTable) (s : State) (v : ℕ) (act : Act) (wish target : Option ℕ) → IsTarget t s v act wish target → (x : ℕ) → target ≡ Some x → IsTrue (t.allowed s v act x)
is_target_allowed t s v act wish target is x at = grind arith

move_of_is_move_in : (t : RuleTable) → IsTable t → (s : State) (item : Item) (m : Moved) → IsTrue (present s.network item.node) → IsMoveOf t s item m → IsMoveIn s.network m
move_of_is_move_in t table s item m has is = grind (arith, is_target_allowed)

pub asked_is_move_in : (t : RuleTable) → IsTable t → (s : State) (items : List Item) → IsStepChoice t s items → (m : Moved) → Any (λ item. IsMoveOf t s item m) items → IsMoveIn s.network m
asked_is_move_in t table s items choice m (k, item, below, at, is) =
    let taken = taken_at t s [] items choice.taken k item below in
    move_of_is_move_in t table s item m (subst (λ i. IsTrue (present s.network i.node)) at taken.0.has) is

-- Whatever allowed targets a step takes, it leads to a state: its items are present, and what they allow is a
-- neighbour.
pub any_step_keeps : (t : RuleTable) → IsTable t → (s : State) → IsState s → (items : List Item) → IsStepChoice t s items → (moves : List Moved) (s' : State) → IsStep t s items moves s' → IsState s'
any_step_keeps t table s good items choice moves s' step =
    let all = All-weaker (λ m. Any (λ item. IsMoveOf t s item m) items) (IsMoveIn s.network) (asked_is_move_in t table s items choice) moves step.each in
    subst IsState (sym step.after) (moves_keep s moves good (recursion_from_All (IsMoveIn s.network) moves all))

-- a reply leaves the accepted state, or the state after a step
does_state : (t : RuleTable) (s : State) (n : ℕ) (event : Event) (reply : Reply) (s' : State) → Does t s n event reply s' → (s' ≡ accepted_state t s event) ⊎ ((items : List Item) × (moves : List Moved) × (event ≡ Step items) × IsStep t s items moves s')
does_state t s n (Step items) (Moves moves) s' does = inr (items, moves, refl, does)
does_state t s n event reply s' does = inl (grind arith)

does_keeps : (t : RuleTable) → IsTable t → (s : State) → IsState s → (n : ℕ) (event : Event) (reply : Reply) (s' : State) → refusal_of t s event ≡ None → Does t s n event reply s' → IsState s'
does_keeps t table s good n event reply s' e does =
    ⊎_elim
    (λ same. subst IsState (sym same) (accepted_keeps t table s good event e))
    (λ (items, moves, is, step). any_step_keeps t table s good items (choice_from_none t s items (subst (λ x. refusal_of t s x ≡ None) is e)) moves s' step)
    (does_state t s n event reply s' does)

answers_by_keep : (t : RuleTable) → IsTable t → (s : State) → IsState s → (n : ℕ) (event : Event) (r : Option Refusal) (reply : Reply) (s' : State) → refusal_of t s event ≡ r → AnswersBy t s n event r reply s' → IsState s'
answers_by_keep t table s good n event x reply s' e does = grind (arith, does_keeps)

-- every answer leaves a state
pub answers_keep : (t : RuleTable) → IsTable t → (s : State) → IsState s → (n : ℕ) (event : Event) (reply : Reply) (s' : State) → Answers t s n event reply s' → IsState s'
answers_keep t table s good n event reply s' answers = answers_by_keep t table s good n event (refusal_of t s event) reply s' refl answers

-- a run from a state ends in a state
pub runs_end_in_states : (t : RuleTable) → IsTable t → (start : Moment) → IsState start.state → (log : List Entry) (end : Moment) → Run t start log end → IsState end.state
runs_end_in_states t table start good [] end run = subst (λ m. IsState m.state) (sym run) good
runs_end_in_states t table start good (entry ∷ log) end (next, answers, run) =
    runs_end_in_states t table (record { state = next; spent = spent_after start.spent entry.1 }) (answers_keep t table start.state good start.spent entry.0 entry.1 next answers) log end run

-- a run continues by one answer of the machine
pub run_add : (t : RuleTable) (start end : Moment) (log : List Entry) (entry : Entry) (s : State) → Run t start log end → Answers t end.state end.spent entry.0 entry.1 s → Run t start (log ++ entry ∷ []) (record { state = s; spent = spent_after end.spent entry.1 })
run_add t start end [] entry s run answers =
    subst (λ (m : Moment). Run t m (entry ∷ []) (record { state = s; spent = spent_after end.spent entry.1 })) run (s, answers, refl)
run_add t start end (first ∷ log) entry s run answers =
    (run.0, run.1, run_add t (record { state = run.0; spent = spent_after start.spent first.1 }) end log entry s run.2 answers)
