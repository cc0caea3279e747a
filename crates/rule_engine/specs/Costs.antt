-- What an event would cost.
use Rattle.std.specs.Prelude.{ℕ, ◌+◌, ◌≤◌, Bool, true, false, ◌&&◌, cond, is_none}
use Rattle.rule_machine.specs.declared.event.Event.{Event}
use Rattle.rule_machine.specs.declared.event.Event.TheVariants.{Link, Unlink, Point, Flag, Join, Leave}
use Rattle.rule_machine.specs.declared.reply.Reply.TheVariants.{Accepted}
use Rattle.rule_machine.specs.Answer.{Answers}
use Rattle.rule_machine.specs.State.{State}
use Rattle.rule_machine.specs.RuleTable.{RuleTable}
use Rattle.rule_machine.specs.Refuse.{refusal_of}

-- whether the event is an edit or a fault
abbrev pub may_disturb : Event → Bool
may_disturb (Link a b) = true
may_disturb (Unlink a b) = true
may_disturb (Point v target) = true
may_disturb (Flag v value) = true
may_disturb (Join v) = true
may_disturb (Leave v) = true
may_disturb event = false

-- whether the event is a disturbance that is not refused
abbrev pub disturbs : RuleTable → State → Event → Bool
disturbs t s event = may_disturb event && is_none (refusal_of t s event)

-- what the event costs by the rule set; 0 unless the event is a disturbance that is not refused
abbrev pub disturbance_cost : RuleTable → (State → Event → ℕ) → State → Event → ℕ
disturbance_cost t cost s event = cond (disturbs t s event) (cost s event) 0

-- if the event is accepted, the charge grows by at most this
abbrev pub BoundsGrowth : RuleTable → State → ℕ → Event → ℕ → Type 0
BoundsGrowth t s spent event cost = (after : State) → Answers t s spent event Accepted after → t.charge after ≤ t.charge s + cost
