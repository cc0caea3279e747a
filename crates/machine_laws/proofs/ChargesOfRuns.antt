-- Bounds on runs from the charge, for any rule set whose steps lower the charge.
use Rattle.machine_laws.proofs.ChargePrelude.{◌≡◌, ◌≢◌, ℕ, ◌+◌, ◌≤◌, List, [], ◌∷◌, Option, None, Some, refl, sym, ap, ◌∙◌, subst, arith, All-head, All-tail, sum_by-cons, Item, Moved, Event, Step, Show, Enabled, Matching, Status, Refusal, Reply, Accepted, Moves, Shown, EnabledAre, Pairs, Counts, State, IsState, RuleTable, IsStep, refusal_of, Does, AnswersBy, Answers, spent_after, Entry, Moment, Run, IsTable, answers_keep, charge_bound, IsCharged, moves_of, moves_in, IsUndisturbed, IsWithinBound, length, steps_of, steps_in}

-- ---- one answer

-- what an answer does to the state: nothing, a step, or a disturbance
pub data Effect (t : RuleTable) (s : State) (reply : Reply) (s' : State) : Type 0 where
  rests : s' ≡ s → moves_of reply ≡ 0 → ((n : ℕ) → spent_after n reply ≡ n) → Effect t s reply s'
  steps : (items : List Item) (moves : List Moved) → reply ≡ Moves moves → IsStep t s items moves s' → Effect t s reply s'
  disturbs : reply ≡ Accepted → Effect t s reply s'

does_effect : (t : RuleTable) (s : State) (n : ℕ) (event : Event) (reply : Reply) (s' : State) → Does t s n event reply s' → Effect t s reply s'
does_effect t s n (Step items) (Moves moves) s' does = steps items moves refl does
does_effect t s n (Show v) (Shown target) s' does = rests does.1 refl (λ m. refl)
does_effect t s n Enabled (EnabledAre nodes) s' does = rests does.1 refl (λ m. refl)
does_effect t s n Matching (Pairs pairs) s' does = rests does.1 refl (λ m. refl)
does_effect t s n Status (Counts counts) s' does = rests does.1 refl (λ m. refl)
does_effect t s n event Accepted s' does = disturbs refl
does_effect t s n event reply s' does = absurd does

effect_by : (t : RuleTable) (s : State) (n : ℕ) (event : Event) (r : Option Refusal) (reply : Reply) (s' : State) → AnswersBy t s n event r reply s' → Effect t s reply s'
effect_by t s n event None reply s' does = does_effect t s n event reply s' does
effect_by t s n event (Some refusal) reply s' does = rests does.1 (ap moves_of does.0) (λ m. ap (spent_after m) does.0)

pub effect : (t : RuleTable) (s : State) (n : ℕ) (event : Event) (reply : Reply) (s' : State) → Answers t s n event reply s' → Effect t s reply s'
effect t s n event reply s' answers = effect_by t s n event (refusal_of t s event) reply s' answers

pub step_network : (t : RuleTable) (s : State) (items : List Item) (moves : List Moved) (s' : State) → IsStep t s items moves s' → s'.network ≡ s.network
step_network t s items moves s' step = ap (λ u. u.network) step.after

-- an answer that is no accepted disturbance lowers the charge by its moves, and keeps the network
pub answer_lowers : (t : RuleTable) (weight : ℕ) → IsCharged t weight → (s : State) → IsState s → (n : ℕ) (event : Event) (reply : Reply) (s' : State) → Answers t s n event reply s' → reply ≢ Accepted → (moves_of reply + t.charge s' ≤ t.charge s) × (s'.network ≡ s.network)
answer_lowers t weight charged s good n event reply s' answers calm = by_effect (effect t s n event reply s' answers)
  where
    by_effect : Effect t s reply s' → (moves_of reply + t.charge s' ≤ t.charge s) × (s'.network ≡ s.network)
    by_effect (rests same none keeps) = let charge_is = ap t.charge same in (omega (arith, none, charge_is), ap (λ u. u.network) same)
    by_effect (steps items moves is step) =
        let count = ap moves_of is in
        let less = charged.falls s items moves s' good step in
        (omega (arith, count, less), step_network t s items moves s' step)
    by_effect (disturbs is) = absurd (calm is)

-- every answer keeps moves spent plus the charge within the bound: a disturbance resets them
pub answer_within : (t : RuleTable) (weight : ℕ) → IsTable t → IsCharged t weight → (m : Moment) → IsState m.state → IsWithinBound t weight m → (event : Event) (reply : Reply) (s : State) → Answers t m.state m.spent event reply s → IsWithinBound t weight (record { state = s; spent = spent_after m.spent reply })
answer_within t weight table charged m good within event reply s answers = by_effect (effect t m.state m.spent event reply s answers)
  where
    by_effect : Effect t m.state reply s → spent_after m.spent reply + t.charge s ≤ charge_bound weight s.network
    by_effect (rests same none keeps) =
        let spent = keeps m.spent in
        let charge_is = ap t.charge same in
        let bound = ap (λ u. charge_bound weight u.network) same in
        omega (arith, spent, charge_is, bound, within)
    by_effect (steps items moves is step) =
        let spent = ap (spent_after m.spent) is in
        let less = charged.falls m.state items moves s good step in
        let bound = ap (charge_bound weight) (step_network t m.state items moves s step) in
        omega (arith, spent, less, bound, within)
    by_effect (disturbs is) =
        let spent = ap (spent_after m.spent) is in
        let most = charged.bounded s (answers_keep t table m.state good m.spent event reply s answers) in
        omega (arith, spent, most)

-- ---- runs

-- An undisturbed run pays its moves with the charge at its start, and keeps the network.
pub run_lowers : (t : RuleTable) (weight : ℕ) → IsTable t → IsCharged t weight → (start : Moment) → IsState start.state → (log : List Entry) (end : Moment) → Run t start log end → IsUndisturbed log → (moves_in log + t.charge end.state ≤ t.charge start.state) × (end.state.network ≡ start.state.network)
run_lowers t weight table charged start good [] end run calm = let same = ap (λ m. t.charge m.state) run in (omega (arith, same), ap (λ m. m.state.network) run)
run_lowers t weight table charged start good (entry ∷ log) end (next, answers, run) calm =
    let first = answer_lowers t weight charged start.state good start.spent entry.0 entry.1 next answers (All-head (λ e. e.1 ≢ Accepted) entry log calm) in
    let rest = run_lowers t weight table charged (record { state = next; spent = spent_after start.spent entry.1 }) (answers_keep t table start.state good start.spent entry.0 entry.1 next answers) log end run (All-tail (λ e. e.1 ≢ Accepted) entry log calm) in
    let whole = sum_by-cons (λ (e : Entry). moves_of e.1) entry log in
    let first_falls = first.0 in
    let rest_falls = rest.0 in
    (omega (arith, first_falls, rest_falls, whole), rest.1 ∙ first.1)

-- Every run keeps moves spent plus the charge within the bound.
pub run_within : (t : RuleTable) (weight : ℕ) → IsTable t → IsCharged t weight → (start : Moment) → IsState start.state → IsWithinBound t weight start → (log : List Entry) (end : Moment) → Run t start log end → IsWithinBound t weight end
run_within t weight table charged start good within [] end run = subst (IsWithinBound t weight) (sym run) within
run_within t weight table charged start good within (entry ∷ log) end (next, answers, run) =
    run_within t weight table charged (record { state = next; spent = spent_after start.spent entry.1 })
    (answers_keep t table start.state good start.spent entry.0 entry.1 next answers)
    (answer_within t weight table charged start good within entry.0 entry.1 next answers)
    log end run

-- ---- a run has at most as many accepted steps as moves

pub some_moves : (moves : List Moved) → moves ≢ [] → 1 ≤ length moves
some_moves [] some = absurd (some refl)
some_moves (m ∷ moves) some = omega arith

step_by : (t : RuleTable) (s : State) (n : ℕ) (event : Event) (r : Option Refusal) (reply : Reply) (s' : State) → AnswersBy t s n event r reply s' → steps_of reply ≤ moves_of reply
step_by t s n event r reply s' answers = grind (arith, some_moves)

pub steps_are_moves : (t : RuleTable) (start : Moment) (log : List Entry) (end : Moment) → Run t start log end → steps_in log ≤ moves_in log
steps_are_moves t start [] end run = omega arith
steps_are_moves t start (entry ∷ log) end (next, answers, run) =
    let first = step_by t start.state start.spent entry.0 (refusal_of t start.state entry.0) entry.1 next answers in
    let rest = steps_are_moves t (record { state = next; spent = spent_after start.spent entry.1 }) log end run in
    let steps = sum_by-cons (λ (e : Entry). steps_of e.1) entry log in
    let moves = sum_by-cons (λ (e : Entry). moves_of e.1) entry log in
    omega (arith, first, rest, steps, moves)
