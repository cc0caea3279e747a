-- Runs without a disturbance by Hsu and Huang's rules: the dense charge pays for them. At most as many moves as
-- the bound are made, and a run that is long enough ends silent.
use Rattle.dense_laws.proofs.Prelude.{◌≡◌, ◌≢◌, ℕ, ◌+◌, ◌-◌, ◌*◌, ◌/◌, ◌<◌, ◌≤◌, List, [], ◌∷◌, length, sym, subst, inl, inr, ⊎_elim, ◌⊎◌, arith, cases_lt, All-head, All-tail, sum_by-cons, Item, Moved, Event, Reply, Accepted, names, node_count, State, IsState, pointer, enabled_names, hsu_huang, IsStep, Answers, spent_after, Entry, Moment, Run, answers_keep, moves_of, moves_in, IsUndisturbed, Effect, rests, steps, disturbs, effect, end_of_path, path_entries, IsPath, hsu_huang_inside, IsDriven, IsBudget, driven_is_quiet, hsu_huang_table, dense_charge}
use Rattle.dense_laws.proofs.Moves.{IsTrap}
use Rattle.dense_laws.proofs.Starts.{lone_is_low, trap_or_less}
use Rattle.dense_laws.proofs.Falls.{among_from, charge_of, charge_is, sides_are, IsFall, step_falls, charge_bounded, trap_charged}

-- what is said of the moves made so far and of the state, and that each step keeps
abbrev IsKept : (ℕ → State → Type 0) → Type 0
IsKept P =
    (k : ℕ) (s : State) (items : List Item) (moves : List Moved) (s' : State) → IsState s → IsStep hsu_huang s items moves s' → P k s → P (k + length moves) s'

answer_keeps : (P : ℕ → State → Type 0) → IsKept P → (k : ℕ) (s : State) → IsState s → (n : ℕ) (event : Event) (reply : Reply) (s' : State) → Answers hsu_huang s n event reply s' → reply ≢ Accepted → P k s → P (k + moves_of reply) s'
answer_keeps P kept k s good n event reply s' answers calm has = by_effect (effect hsu_huang s n event reply s' answers)
  where
    by_effect : Effect hsu_huang s reply s' → P (k + moves_of reply) s'
    by_effect (rests same none keeps) = subst (λ (j : ℕ). P j s') (omega (arith, none)) (subst (P k) (sym same) has)
    by_effect (steps items moves is step) = subst (λ (r : Reply). P (k + moves_of r) s') (sym is) (kept k s items moves s' good step has)
    by_effect (disturbs is) = absurd (calm is)

-- so a run keeps it
run_keeps : (P : ℕ → State → Type 0) → IsKept P → (k : ℕ) (start : Moment) → IsState start.state → (log : List Entry) (end : Moment) → Run hsu_huang start log end → IsUndisturbed log → P k start.state → P (k + moves_in log) end.state
run_keeps P kept k start good [] end run calm has = subst (λ (j : ℕ). P j end.state) (omega arith) (subst (λ (m : Moment). P k m.state) (sym run) has)
run_keeps P kept k start good (entry ∷ log) end (next, answers, run) calm has =
    let first = answer_keeps P kept k start.state good start.spent entry.0 entry.1 next answers (All-head (λ e. e.1 ≢ Accepted) entry log calm) has in
    let whole = sum_by-cons (λ (e : Entry). moves_of e.1) entry log in
    subst (λ (j : ℕ). P j end.state) (omega (arith, whole)) (run_keeps P kept (k + moves_of entry.1) (record { state = next; spent = spent_after start.spent entry.1 })
    (answers_keep hsu_huang hsu_huang_table start.state good start.spent entry.0 entry.1 next answers) log end run (All-tail (λ e. e.1 ≢ Accepted) entry log calm) first)

-- the moves, and the charge that is left, are paid by the charge at the start
pub dense_moves_are_paid : (start : Moment) → IsState start.state → (log : List Entry) (end : Moment) → Run hsu_huang start log end → IsUndisturbed log → 2 * moves_in log + dense_charge end.state ≤ dense_charge start.state
dense_moves_are_paid start good log end run calm =
    let paid = run_keeps (λ k s. 2 * k + charge_of s ≤ charge_of start.state)
    (λ k s items moves s' good step has. let fall = step_falls s items moves s' good step in omega (arith, fall.one, fall.lowers, has))
    0 start good log end run calm (omega arith) in
    omega (arith, paid, charge_is start.state, charge_is end.state)

-- ---- a budget

-- at most n moves can still be made: the charge is at most 2n + 1, or in a trap at most four more
abbrev pub HasMovesWithin : State → ℕ → Type 0
HasMovesWithin s n = (IsTrap (pointer s) × (charge_of s ≤ 2 * n + 5)) ⊎ (charge_of s ≤ 2 * n + 1)

dense_spends : (s s' : State) (n : ℕ) (moves : List Moved) → IsFall s s' moves → HasMovesWithin s n → (length moves ≤ n) × HasMovesWithin s' (n - length moves)
dense_spends s s' n moves fall within = grind (arith, trap_charged)

more_within : (s : State) (n m : ℕ) → HasMovesWithin s n → n ≤ m → HasMovesWithin s m
more_within s n m within le = grind arith

pub dense_budget : IsBudget hsu_huang HasMovesWithin
dense_budget = record {
  spends = λ s n items moves s' good within step. dense_spends s s' n moves (step_falls s items moves s' good step) within;
  more = more_within;
}

-- from any state as many as half of n² + 2n - 4 are enough
within_at : (s : State) → IsState s → (long : ℕ) → node_count s.network * node_count s.network + 2 * node_count s.network ≤ 2 * long + 5 → HasMovesWithin s long
within_at s good long enough =
    ⊎_elim
    (λ (few : node_count s.network < 2). inr (omega (arith, sides_are s good, lone_is_low (pointer s) (names s.network) (among_from s good) few)))
    (λ (two : 2 ≤ node_count s.network). ⊎_elim
    (λ trap. inl (trap, omega (arith, charge_bounded s good, enough)))
    (λ less. inr (omega (arith, sides_are s good, less, enough)))
    (trap_or_less (pointer s) (names s.network) (among_from s good) two))
    (cases_lt (node_count s.network) 2)

-- n² + 2n - 4, and 0 for one node or none
pub moves_are_few : (start : Moment) → IsState start.state → (log : List Entry) (end : Moment) → Run hsu_huang start log end → IsUndisturbed log → 2 * moves_in log ≤ node_count start.state.network * node_count start.state.network + 2 * node_count start.state.network - 4
moves_are_few start good log end run calm =
    let long = (node_count start.state.network * node_count start.state.network + 2 * node_count start.state.network - 4) / 2 in
    let most = run_keeps (λ k s. (k ≤ long) × HasMovesWithin s (long - k)) (λ k s items moves s' good step has. spends k s moves s' long has.0 (dense_budget.spends s (long - k) items moves s' good has.1 step))
    0 start good log end run calm (omega arith, more_within start.state long (long - 0) (within_at start.state good long (omega arith)) (omega arith)) in
    omega (arith, most.0)
  where
    spends : (k : ℕ) (s : State) (moves : List Moved) (s' : State) (long : ℕ) → k ≤ long → (length moves ≤ long - k) × HasMovesWithin s' (long - k - length moves) → (k + length moves ≤ long) × HasMovesWithin s' (long - (k + length moves))
    spends k s moves s' long few has = (omega (arith, few, has.0), more_within s' (long - k - length moves) (long - (k + length moves)) has.1 (omega arith))

-- a driven run of as many entries ends silent
pub enough_turns_end_silent : (start : Moment) → IsState start.state → (path : List (Entry × State)) → IsPath hsu_huang start path → IsUndisturbed (path_entries path) → IsDriven hsu_huang start.state path → node_count start.state.network * node_count start.state.network + 2 * node_count start.state.network ≤ 2 * length path + 5 → enabled_names hsu_huang (end_of_path start.state path) ≡ []
enough_turns_end_silent start good path is calm driven enough =
    driven_is_quiet hsu_huang HasMovesWithin hsu_huang_table hsu_huang_inside dense_budget start good path is calm driven (within_at start.state good (length path) enough)
