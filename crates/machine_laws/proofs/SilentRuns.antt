-- A run that is long enough ends silent. If each turn moves a node or is made in a silent network, the
-- network is silent after as many turns as the budget. A budget is any bound that moves use up.
use Rattle.machine_laws.proofs.ChargePrelude.{◌≡◌, ◌≢◌, ℕ, suc, ◌-◌, ◌≤◌, List, [], ◌∷◌, length, All, Any, None, Some, IsTrue, refl, sym, ap, subst, ⊎_elim, arith, true≢false, All-head, All-tail, Act, Item, Moved, Reply, Accepted, present, State, IsState, RuleTable, rule_at, enabled_names, IsMoveOf, IsStep, spent_after, Entry, Moment, no_act, quiet_at, quiet_from, IsTable, find_passes, option_cases, answers_keep, IsCharged, moves_of, IsUndisturbed, end_of_path, path_entries, IsPath, IsDriven}
use Rattle.machine_laws.proofs.NodeMoves.{IsInside}
use Rattle.machine_laws.proofs.ChargesOfRuns.{Effect, rests, steps, disturbs, effect}
use Rattle.machine_laws.proofs.LeastAnswers.{least_step}
use Rattle.machine_laws.proofs.AcceptedEvents.{IsStepChoice}
use Rattle.machine_laws.proofs.ChargesOfRuns.{some_moves}

-- from a state within n, a step has at most n moves, and the state after the step is within n minus these
-- moves
pub record IsBudget (t : RuleTable) (within : State → ℕ → Type 0) : Type 0 where
  pub spends : (s : State) (n : ℕ) (items : List Item) (moves : List Moved) (s' : State) → IsState s → within s n → IsStep t s items moves s' → (length moves ≤ n) × within s' (n - length moves)
  pub more : (s : State) (n m : ℕ) → within s n → n ≤ m → within s m

-- the charge is a budget
pub charge_budget : (t : RuleTable) (weight : ℕ) → IsCharged t weight → IsBudget t (λ s n. t.charge s ≤ n)
charge_budget t weight charged = record {
  spends = λ s n items moves s' good within step. let falls = charged.falls s items moves s' good step in (omega (arith, falls, within), omega (arith, falls, within));
  more = λ s n m within le. omega (arith, within, le);
}

-- a state with no budget left is silent
pub spent_is_quiet : (t : RuleTable) (within : State → ℕ → Type 0) → IsTable t → IsBudget t within → (s : State) → IsState s → within s 0 → enabled_names t s ≡ []
spent_is_quiet t within table budget s good none =
    quiet_from t s (λ v has act. ⊎_elim (λ idle. no_act (t.guard s v) idle act) (λ some. absurd (goes v some.0 has some.1)) (option_cases (rule_at t s v)))
  where
    choice : (v : ℕ) (act : Act) → IsTrue (present s.network v) → rule_at t s v ≡ Some act → IsStepChoice t s (record { node = v; wish = None } ∷ [])
    choice v act has rule = grind arith

    -- an enabled node may move alone
    goes : (v : ℕ) (act : Act) → IsTrue (present s.network v) → rule_at t s v ≡ Some act → ⊥
    goes v act has rule =
        let step = least_step t table s good _ (choice v act has rule) in
        let few = (budget.spends s 0 _ _ _ good none step).0 in
        omega (arith, few, some_moves _ step.some)

-- ---- silence lasts

-- in a silent network there is no step
no_step : (t : RuleTable) → IsInside t → (s : State) → IsState s → enabled_names t s ≡ [] → (items : List Item) (moves : List Moved) → moves ≢ [] → All (λ m. Any (λ item. IsMoveOf t s item m) items) moves → ⊥
no_step t inside s good quiet items [] some each = some refl
no_step t inside s good quiet items (m ∷ moves) some each = by_item (All-head (λ m. Any (λ item. IsMoveOf t s item m) items) m moves each)
  where
    by_item : Any (λ item. IsMoveOf t s item m) items → ⊥
    by_item h0 = grind (arith, find_passes, true≢false, quiet_at)

quiet_effect : (t : RuleTable) → IsInside t → (s : State) → IsState s → enabled_names t s ≡ [] → (reply : Reply) (s' : State) → reply ≢ Accepted → Effect t s reply s' → s' ≡ s
quiet_effect t inside s good quiet reply s' calm (rests same none keeps) = same
quiet_effect t inside s good quiet reply s' calm (steps items moves is step) = absurd (no_step t inside s good quiet items moves step.some step.each)
quiet_effect t inside s good quiet reply s' calm (disturbs is) = absurd (calm is)

-- a silent network stays silent without a disturbance
pub quiet_stays : (t : RuleTable) → IsTable t → IsInside t → (start : Moment) → IsState start.state → enabled_names t start.state ≡ [] → (path : List (Entry × State)) → IsPath t start path → IsUndisturbed (path_entries path) → enabled_names t (end_of_path start.state path) ≡ []
quiet_stays t table inside start good quiet [] is calm = quiet
quiet_stays t table inside start good quiet (turn ∷ path) (answers, is) calm =
    let same = quiet_effect t inside start.state good quiet turn.0.1 turn.1 (All-head (λ e. e.1 ≢ Accepted) turn.0 (path_entries path) calm) (effect t start.state start.spent turn.0.0 turn.0.1 turn.1 answers) in
    quiet_stays t table inside (record { state = turn.1; spent = spent_after start.spent turn.0.1 })
    (answers_keep t table start.state good start.spent turn.0.0 turn.0.1 turn.1 answers)
    (subst (λ (u : State). enabled_names t u ≡ []) (sym same) quiet)
    path is (All-tail (λ e. e.1 ≢ Accepted) turn.0 (path_entries path) calm)

-- ---- long enough

spends_one : (t : RuleTable) (within : State → ℕ → Type 0) → IsBudget t within → (s : State) → IsState s → (left : ℕ) (reply : Reply) (s' : State) → reply ≢ Accepted → 1 ≤ moves_of reply → within s (suc left) → Effect t s reply s' → within s' left
spends_one t within budget s good left reply s' calm moved has (rests same none keeps) = absurd (omega (arith, moved, none))
spends_one t within budget s good left reply s' calm moved has (steps items moves is step) =
    budget.more s' (suc left - length moves) left (budget.spends s (suc left) items moves s' good has step).1 (omega (arith, ap moves_of is, moved))
spends_one t within budget s good left reply s' calm moved has (disturbs is) = absurd (calm is)

pub driven_is_quiet : (t : RuleTable) (within : State → ℕ → Type 0) → IsTable t → IsInside t → IsBudget t within → (start : Moment) → IsState start.state → (path : List (Entry × State)) → IsPath t start path → IsUndisturbed (path_entries path) → IsDriven t start.state path → within start.state (length path) → enabled_names t (end_of_path start.state path) ≡ []
driven_is_quiet t within table inside budget start good [] is calm driven has = spent_is_quiet t within table budget start.state good has
driven_is_quiet t within table inside budget start good (turn ∷ path) (answers, is) calm (goes, driven) has =
    ⊎_elim
    (λ moved. driven_is_quiet t within table inside budget (record { state = turn.1; spent = spent_after start.spent turn.0.1 })
    (answers_keep t table start.state good start.spent turn.0.0 turn.0.1 turn.1 answers)
    path is (All-tail (λ e. e.1 ≢ Accepted) turn.0 (path_entries path) calm) driven
    (spends_one t within budget start.state good (length path) turn.0.1 turn.1 (All-head (λ e. e.1 ≢ Accepted) turn.0 (path_entries path) calm) moved (budget.more start.state (length (turn ∷ path)) (suc (length path)) has (omega arith)) (effect t start.state start.spent turn.0.0 turn.0.1 turn.1 answers)))
    (λ quiet. quiet_stays t table inside start good quiet (turn ∷ path) (answers, is) calm)
    goes
