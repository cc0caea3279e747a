-- The moves of a choice, and the verdict of each item.
use Rattle.std.specs.Prelude.{◌≡◌, ℕ, ◌+◌, Bool, true, false, ◌&&◌, List, [], ◌∷◌, Option, Some, None, IfSome, if◌then◌else◌, nat_eq, nat_lt, slice_get, slice_index_or}
use Rattle.std.specs.List.{filter_map}
use Rattle.rule_machine.specs.declared.choice.Item.{Item}
use Rattle.rule_machine.specs.declared.act.Moved.{Moved}
use Rattle.rule_machine.specs.declared.verdict.Verdict.{Verdict}
use Rattle.rule_machine.specs.declared.verdict.Outcome.{Outcome}
use Rattle.rule_machine.specs.declared.verdict.Outcome.TheVariants as outcome
use Rattle.rule_machine.specs.declared.refusal.Refusal.{Refusal}
use Rattle.rule_machine.specs.declared.reply.Reply.{Reply}
use Rattle.rule_machine.specs.declared.reply.Reply.TheVariants.{Refused, Moves}
use Rattle.rule_machine.specs.declared.refusal.Refusal.TheVariants.{UnknownNode, EmptyChoice, NotCentral, ChosenTwice, NotEnabled, BadTarget}
use Rattle.rule_machine.specs.State.{State}
use Rattle.rule_machine.specs.RuleTable.{RuleTable}
use Rattle.rule_machine.specs.Refuse.{step_refusal}
use Rattle.rule_machine.specs.Least.{outcome_of, move_in, least_moves}

-- what the item at a place of a choice would do alone
abbrev pub verdict_of : RuleTable → State → ℕ → Item → Verdict
verdict_of t s place item = record { place = place; node = item.node; outcome = outcome_of t s item }

-- the verdicts of items, numbered from `place`
abbrev pub verdicts_from : RuleTable → State → ℕ → List Item → List Verdict
verdicts_from t s place [] = []
verdicts_from t s place (item ∷ items) = verdict_of t s place item ∷ verdicts_from t s (place + 1) items

-- the verdict of each item, in order
abbrev pub verdicts_of : RuleTable → State → List Item → List Verdict
verdicts_of t s items = verdicts_from t s 0 items

-- each of these verdicts has the outcome of the item at its place
abbrev pub HaveOutcomes : RuleTable → State → List Item → List Verdict → Type 0
HaveOutcomes t s items verdicts =
    (place : ℕ) (item : Item) → item ≡ slice_index_or items place item → IfSome (slice_get verdicts place) (λ verdict. verdict.outcome ≡ outcome_of t s item)

-- why an item with this outcome is refused; `twice`: an earlier item of the choice names the same node
abbrev pub refused_by : Outcome → Bool → Option Refusal
refused_by outcome.Absent twice = Some UnknownNode
refused_by outcome.Idle true = Some ChosenTwice
refused_by outcome.Wrong true = Some ChosenTwice
refused_by (outcome.Moves m) true = Some ChosenTwice
refused_by outcome.Idle false = Some NotEnabled
refused_by outcome.Wrong false = Some BadTarget
refused_by (outcome.Moves m) false = None

-- why a choice of `count` items is refused, whatever the items are
abbrev pub size_refusal : Bool → ℕ → Option Refusal
size_refusal central count =
    if nat_eq count 0 then Some EmptyChoice else (if central && nat_lt 1 count then Some NotCentral else None)

-- the moves that items make alone, in their order
abbrev pub moves_by : RuleTable → State → List Item → List Moved
moves_by t s items = filter_map (λ i. move_in (outcome_of t s i)) items

-- if `made` are the moves of the items of a choice that is not refused, `moves` are the same moves,
-- ascending by node
abbrev pub AreLeast : List Moved → List Moved → Type 0
AreLeast made moves =
    (t : RuleTable) (s : State) (items : List Item) → made ≡ moves_by t s items → step_refusal t s items ≡ None → moves ≡ least_moves t s items

-- the reply to a step: refused for this reason, or with these moves
abbrev pub IsToldOf : Option Refusal → List Moved → Reply → Type 0
IsToldOf (Some refusal) made reply = reply ≡ Refused refusal
IsToldOf None made reply = (moves : List Moved) × AreLeast made moves × (reply ≡ Moves moves)
