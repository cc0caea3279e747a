-- In a silent network no run without a disturbance moves a node.
use Rattle.std.proofs.Common.{◌≡◌, ◌≢◌, ℕ, List, [], ◌∷◌, All, Any, refl, subst, sym, arith}
use Rattle.std.proofs.lemmas.Bool.{true≢false}
use Rattle.std.proofs.lemmas.List.Elements.{All-head, All-tail}
use Rattle.std.proofs.lemmas.List.Sums.{sum_by-cons}
use Rattle.machine_laws.proofs.EnabledNodes.{quiet_at}
use Rattle.machine_laws.proofs.LeastMoves.{IsTable, find_passes}
use Rattle.machine_laws.proofs.Runs.{answers_keep}
use Rattle.rule_machine.specs.Answer.{Answers, spent_after}
use Rattle.rule_machine.specs.RuleTable.{RuleTable, enabled_names}
use Rattle.rule_machine.specs.Run.{Entry, Moment, Run}
use Rattle.rule_machine.specs.State.{State, IsState}
use Rattle.rule_machine.specs.Step.{IsMoveOf}
use Rattle.rule_machine.specs.declared.act.Moved.{Moved}
use Rattle.rule_machine.specs.declared.choice.Item.{Item}
use Rattle.rule_machine.specs.declared.event.Event.{Event}
use Rattle.rule_machine.specs.declared.reply.Reply.{Reply}
use Rattle.rule_machine.specs.declared.reply.Reply.TheVariants.{Accepted}
use Rattle.machine_laws.specs.ChargeWords.{moves_of, moves_in, IsUndisturbed}
use Rattle.machine_laws.proofs.NodeMoves.{IsInside}
use Rattle.machine_laws.proofs.ChargesOfRuns.{Effect, rests, steps, disturbs, effect}

no_mover : (t : RuleTable) → IsInside t → (s : State) → IsState s → enabled_names t s ≡ [] → (items : List Item) (moves : List Moved) → moves ≢ [] → All (λ m. Any (λ item. IsMoveOf t s item m) items) moves → ⊥
no_mover t inside s good quiet items [] some each = some refl
no_mover t inside s good quiet items (m ∷ moves) some each = by_item (All-head (λ m. Any (λ item. IsMoveOf t s item m) items) m moves each)
  where
    by_item : Any (λ item. IsMoveOf t s item m) items → ⊥
    by_item h0 = grind (arith, find_passes, true≢false, quiet_at)

no_move : (t : RuleTable) → IsInside t → (s : State) → IsState s → enabled_names t s ≡ [] → (n : ℕ) (event : Event) (reply : Reply) (s' : State) → Answers t s n event reply s' → reply ≢ Accepted → (moves_of reply ≡ 0) × (s' ≡ s)
no_move t inside s good quiet n event reply s' answers calm = by_effect (effect t s n event reply s' answers)
  where
    by_effect : Effect t s reply s' → (moves_of reply ≡ 0) × (s' ≡ s)
    by_effect (rests same none keeps) = (none, same)
    by_effect (steps items moves is step) = absurd (no_mover t inside s good quiet items moves step.some step.each)
    by_effect (disturbs is) = absurd (calm is)

pub silent_moves : (t : RuleTable) → IsTable t → IsInside t → (start : Moment) → IsState start.state → enabled_names t start.state ≡ [] → (log : List Entry) (end : Moment) → Run t start log end → IsUndisturbed log → moves_in log ≡ 0
silent_moves t table inside start good quiet [] end run calm = refl
silent_moves t table inside start good quiet (entry ∷ log) end (next, answers, run) calm =
    let here = no_move t inside start.state good quiet start.spent entry.0 entry.1 next answers (All-head (λ e. e.1 ≢ Accepted) entry log calm) in
    let none = here.0 in
    let rest = silent_moves t table inside (record { state = next; spent = spent_after start.spent entry.1 })
    (answers_keep t table start.state good start.spent entry.0 entry.1 next answers)
    (subst (λ (u : State). enabled_names t u ≡ []) (sym here.1) quiet)
    log end run (All-tail (λ e. e.1 ≢ Accepted) entry log calm) in
    let whole = sum_by-cons (λ (e : Entry). moves_of e.1) entry log in
    omega (arith, none, rest, whole)
