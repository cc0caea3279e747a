-- The rounds of any rule set: what is due from state to state bounds them. Also who is pending.
use Rattle.round_laws.proofs.Prelude.{◌≡◌, ◌≢◌, ℕ, ◌+◌, ◌-◌, ◌≤◌, false, not, filter, List, [], ◌∷◌, All, Any, Option, None, Some, is_some, IsTrue, refl, sym, ap, ◌∙◌, subst, inl, inr, ⊎_elim, ◌⊎◌, arith, and_from, true≢false, not_from_false, All-head, All-tail, Act, acts, Moved, Item, Event, Step, Refusal, Reply, Accepted, Moves, names, State, IsState, RuleTable, rule_at, enabled_names, IsStep, IsMoveOf, refusal_of, AnswersBy, Answers, spent_after, Entry, Moment, Run, followed, after_moves, no_act, IsTable, find_passes, option_cases, answers_keep, runs_end_in_states, IsUndisturbed, IsIn, in_names, IsInside, is_mover_in, stays_pending, round_turn, rounds_from}
pub use Rattle.machine_laws.proofs.Members.{in_kept}
use Rattle.dense_laws.proofs.Games.{enabled_is}

-- ---- who is pending

-- the nodes that these moves to s leave pending
abbrev pub left : RuleTable → List Moved → State → List ℕ → List ℕ
left t moves s pending = filter (stays_pending t moves s) pending

-- a node with a guard that holds has a rule
rule_from : (t : RuleTable) (s : State) (v : ℕ) (act : Act) → IsTrue (t.guard s v act) → IsTrue (is_some (rule_at t s v))
rule_from t s v act guard =
    ⊎_elim
    (λ none. absurd (true≢false (sym guard ∙ no_act (t.guard s v) none act)))
    (λ some. ap is_some some.1)
    (option_cases (rule_at t s v))

-- a pending node that does not move and has a rule is left pending
pub still_pending : (t : RuleTable) (moves : List Moved) (s : State) (v : ℕ) (pending : List ℕ) (act : Act) → IsIn v pending → is_mover_in moves v ≡ false → IsTrue (t.guard s v act) → IsIn v (left t moves s pending)
still_pending t moves s v pending act there idle guard =
    in_kept (stays_pending t moves s) v pending (and_from (not (is_mover_in moves v)) (is_some (rule_at t s v)) (not_from_false (is_mover_in moves v) idle) (rule_from t s v act guard)) there

-- when a round begins, a node with a guard that holds is pending
pub in_enabled : (t : RuleTable) → IsInside t → (s : State) → IsState s → (v : ℕ) (act : Act) → IsTrue (t.guard s v act) → IsIn v (enabled_names t s)
in_enabled t inside s good v act guard =
    in_kept (λ v. is_some (rule_at t s v)) v (names s.network) (rule_from t s v act guard) (in_names s.network v (inside.has s v act good guard))

-- the network is silent, or some node has a guard that holds
pub silent_or_not : (t : RuleTable) (s : State) → (enabled_names t s ≡ []) ⊎ ((v : ℕ) × ((act : Act) × IsTrue (t.guard s v act)))
silent_or_not t s = by_names (enabled_names t s) refl
  where
    by_names : (xs : List ℕ) → enabled_names t s ≡ xs → (enabled_names t s ≡ []) ⊎ ((v : ℕ) × ((act : Act) × IsTrue (t.guard s v act)))
    by_names [] is = inl is
    by_names (v ∷ xs) is = inr (v, (enabled_is t s v (subst (IsIn v) (sym is) (inl refl))).1)

-- ---- the state after an answer

-- the state after an answer is the one that its reply tells
pub answer_followed : (t : RuleTable) (s : State) (n : ℕ) (event : Event) (reply : Reply) (s' : State) → Answers t s n event reply s' → followed s event reply ≡ s'
answer_followed t s n event reply s' answers = grind arith

-- the step that these moves answer
step_by : (t : RuleTable) (s : State) (n : ℕ) (event : Event) (r : Option Refusal) (moves : List Moved) (s' : State) → AnswersBy t s n event r (Moves moves) s' → (items : List Item) × IsStep t s items moves s'
step_by t s n (Step items) None moves s' does = (items, does)
step_by t s n event None moves s' does = absurd does
step_by t s n event (Some refusal) moves s' does = let refused = does.0 in absurd cc

-- ---- what is due

-- How many rounds at most are still to end, if these nodes are pending. A step keeps to it, and when no node is
-- left pending, a round has ended, and the network is silent or the next round begins.
pub record IsRoundBudget (t : RuleTable) (due : State → List ℕ → ℕ → Type 0) : Type 0 where
  pub keeps : (s : State) (pending : List ℕ) (b : ℕ) (items : List Item) (moves : List Moved) (s' : State) → IsState s → IsStep t s items moves s' → due s pending b → due s' (left t moves s' pending) b
  pub ends : (s : State) (b : ℕ) → IsState s → due s [] b → (enabled_names t s ≡ []) ⊎ due s (enabled_names t s) (b - 1)
  pub some : (s : State) (pending : List ℕ) (b : ℕ) → IsState s → due s pending b → 1 ≤ b

-- a silent network has no step
no_step : (t : RuleTable) → IsInside t → (s : State) → IsState s → enabled_names t s ≡ [] → (items : List Item) (moves : List Moved) → moves ≢ [] → All (λ m. Any (λ item. IsMoveOf t s item m) items) moves → ⊥
no_step t inside s good quiet items [] some each = some refl
no_step t inside s good quiet items (m ∷ moves) some each = by_item (All-head (λ m. Any (λ item. IsMoveOf t s item m) items) m moves each)
  where
    by_item : Any (λ item. IsMoveOf t s item m) items → ⊥
    by_item (k, item, below, at, is) = subst (IsIn item.node) quiet (in_enabled t inside s good item.node m.act (find_passes (t.guard s item.node) acts m.act is.rule))

-- the network is silent, or these rounds are due
abbrev pub Owes : (State → List ℕ → ℕ → Type 0) → RuleTable → State → List ℕ → ℕ → Type 0
Owes due t s pending b = (enabled_names t s ≡ []) ⊎ due s pending b

-- of b rounds these many are done when a run ends in s, and the rest is owed
abbrev Remains : (State → List ℕ → ℕ → Type 0) → RuleTable → State → ℕ → ℕ → Type 0
Remains due t s b done = (rest : ℕ) × ((pending : List ℕ) × (done + rest ≡ b) × Owes due t s pending rest)

module _ (t : RuleTable) (due : State → List ℕ → ℕ → Type 0) (table : IsTable t) (inside : IsInside t) (budget : IsRoundBudget t due) where
  -- a step to s that leaves xs pending
  turn_left : (s end : State) → IsState s → (xs : List ℕ) (b : ℕ) (log : List Entry) → ((pending : List ℕ) (rest : ℕ) → Owes due t s pending rest → Remains due t end rest (rounds_from t s pending log)) → due s xs b → Remains due t end b ((round_turn t s xs).0 + rounds_from t s (round_turn t s xs).1 log)
  turn_left s end good [] b log more has =
      let later = more (enabled_names t s) (b - 1) (budget.ends s b good has) in
      let sum = later.1.1 in
      let one = budget.some s [] b good has in
      (later.0, (later.1.0, omega (arith, sum, one), later.1.2))
  turn_left s end good (v ∷ xs) b log more has =
      let later = more (v ∷ xs) b (inr has) in
      let sum = later.1.1 in
      (later.0, (later.1.0, omega (arith, sum), later.1.2))

  -- so one answer keeps to it, if the rest of the log does
  by_answer : (s : State) → IsState s → (n : ℕ) (pending : List ℕ) (b : ℕ) → Owes due t s pending b → (event : Event) (reply : Reply) (end : State) (log : List Entry) → Answers t s n event reply (followed s event reply) → reply ≢ Accepted → ((pending : List ℕ) (rest : ℕ) → Owes due t (followed s event reply) pending rest → Remains due t end rest (rounds_from t (followed s event reply) pending log)) → Remains due t end b (rounds_from t s pending ((event, reply) ∷ log))
  by_answer s good n pending b has event (Moves moves) end log answers calm more =
      let step = step_by t s n event (refusal_of t s event) moves (after_moves s moves) answers in
      turn_left (after_moves s moves) end (answers_keep t table s good n event (Moves moves) (after_moves s moves) answers) (left t moves (after_moves s moves) pending) b log more (by_step step.0 step.1 has)
    where
      by_step : (items : List Item) → IsStep t s items moves (after_moves s moves) → Owes due t s pending b → due (after_moves s moves) (left t moves (after_moves s moves) pending) b
      by_step items step (inl quiet) = absurd (no_step t inside s good quiet items moves step.some step.each)
      by_step items step (inr owed) = budget.keeps s pending b items moves (after_moves s moves) good step owed
  by_answer s good n pending b has event Accepted end log answers calm more = absurd (calm refl)
  by_answer s good n pending b has event reply end log answers calm more =
      let later = more pending b has in
      let sum = later.1.1 in
      (later.0, (later.1.0, omega (arith, sum), later.1.2))

  -- Then the rounds of a run without a disturbance, and what is owed at its end, are that number.
  rounds_left : (start : Moment) → IsState start.state → (pending : List ℕ) (b : ℕ) → Owes due t start.state pending b → (log : List Entry) (end : Moment) → Run t start log end → IsUndisturbed log → Remains due t end.state b (rounds_from t start.state pending log)
  rounds_left start good pending b has [] end run calm =
      (b, (pending, omega arith, subst (λ (m : Moment). Owes due t m.state pending b) (sym run) has))
  rounds_left start good pending b has (entry ∷ log) end (next, answers, run) calm =
      let same = sym (answer_followed t start.state start.spent entry.0 entry.1 next answers) in
      let after = followed start.state entry.0 entry.1 in
      by_answer start.state good start.spent pending b has entry.0 entry.1 end.state log (subst (Answers t start.state start.spent entry.0 entry.1) same answers) (All-head (λ e. e.1 ≢ Accepted) entry log calm)
      (λ pending rest has. rounds_left (record { state = after; spent = spent_after start.spent entry.1 })
      (subst IsState same (answers_keep t table start.state good start.spent entry.0 entry.1 next answers))
      pending rest has log end
      (subst (λ (u : State). Run t (record { state = u; spent = spent_after start.spent entry.1 }) log end) same run)
      (All-tail (λ e. e.1 ≢ Accepted) entry log calm))

  -- so they are at most that number, and after that number the network is silent
  pub rounds_within : (start : Moment) → IsState start.state → (pending : List ℕ) (b : ℕ) → Owes due t start.state pending b → (log : List Entry) (end : Moment) → Run t start log end → IsUndisturbed log → (rounds_from t start.state pending log ≤ b) × (b ≤ rounds_from t start.state pending log → enabled_names t end.state ≡ [])
  rounds_within start good pending b has log end run calm =
      let later = rounds_left start good pending b has log end run calm in
      let sum = later.1.1 in (
        omega (arith, sum),
        λ enough. ⊎_elim
            (λ quiet. quiet)
            (λ owed. let one = budget.some end.state later.1.0 later.0 (runs_end_in_states t table start good log end run) owed in absurd (omega (arith, sum, enough, one)))
            later.1.2,
      )
