-- The step of an enabled node alone, with no wish, is answered by its one move. Its node is present and has a
-- rule, there is one item, and no target is wished. So nothing refuses it, and its own move is the only one.
use Rattle.locked_net.proofs.Prelude.{◌≡◌, ℕ, ◌%◌, true, false, ◌&&◌, [], ◌∷◌, length, Option, None, Some, is_some, nat_lt, if◌then◌else◌, refl, sym, ap, ◌∙◌, option_or, true≢false, cond-false, Act, Item, Moved, Absent, NotCentral, Moves, present, State, RuleTable, rule_at, enabled_names, least_target, step_refusal, items_refusal, item_refusal, move_in, outcome_of, outcome_at, least_moves, reply_of, reply_by, one_least, mover, lone_items, lone_step}
use Rattle.locked_net.proofs.DaemonSteps.{enabled_at, taken_by, few_alone}

-- the move of a node by its rule
abbrev move_by : RuleTable → State → ℕ → Act → Moved
move_by t s v act = record { node = v; act = act; target = least_target t s v act }

-- the answer is one move of this node
pub record AnswersAlone (t : RuleTable) (s : State) (v spent : ℕ) : Type 0 where
  pub move : Moved
  pub own : move.node ≡ v
  pub answer : reply_of t s spent (lone_step v) ≡ Moves (move ∷ [])

module _ (t : RuleTable) (s : State) (v : ℕ) (act : Act) (has : present s.network v ≡ true) (rule : rule_at t s v ≡ Some act) where
  abbrev item : Item
  item = record { node = v; wish = None }

  free : step_refusal t s (lone_items v) ≡ None
  free =
      let here : item_refusal t s [] item ≡ None = taken_by t s item (present s.network v) false (rule_at t s v) has refl (ap is_some rule) refl in
      cond-false (t.central && nat_lt 1 1) (Some NotCentral) (items_refusal t s [] (lone_items v)) (few_alone t.central 1 (λ _. refl))
      ∙ ap (λ o. option_or o None) here

  at_own : move_in (outcome_of t s item) ≡ Some (move_by t s v act)
  at_own = ap (λ b. move_in (if b then outcome_at t s item (rule_at t s v) else Absent)) has ∙ ap (λ o. move_in (outcome_at t s item o)) rule

  moves_are : least_moves t s (lone_items v) ≡ move_by t s v act ∷ []
  moves_are = sym (one_least t s item (move_by t s v act) at_own t s (lone_items v) refl free)

  pub answers : (spent : ℕ) → AnswersAlone t s v spent
  answers spent = record {
    move = move_by t s v act;
    own = refl;
    answer = ap (reply_by t s spent (lone_step v)) free ∙ ap Moves moves_are;
  }

by_rule : (t : RuleTable) (s : State) (v spent : ℕ) (rule : Option Act) → present s.network v ≡ true → rule_at t s v ≡ rule → is_some rule ≡ true → AnswersAlone t s v spent
by_rule t s v spent None has is some = absurd (true≢false (sym some))
by_rule t s v spent (Some act) has is some = answers t s v act has is spent

pub mover_answers : (t : RuleTable) (s : State) (turn v spent : ℕ) → mover t s turn ≡ Some v → AnswersAlone t s v spent
mover_answers t s turn v spent moves =
    let enabled = enabled_names t s in
    let place = turn % length enabled in
    let own = enabled_at t s place v moves in
    by_rule t s v spent (rule_at t s v) own.has refl own.rule
