-- When a cost bounds the moves after one disturbance of a silent network.
use Rattle.std.specs.Prelude.{ℕ, ◌+◌, ◌≤◌, List}
use Rattle.rule_machine.specs.declared.event.Event.{Event}
use Rattle.rule_machine.specs.declared.reply.Reply.TheVariants.{Accepted}
use Rattle.rule_machine.specs.Answer.{Answers}
use Rattle.rule_machine.specs.State.{State, IsState}
use Rattle.rule_machine.specs.Stable.{IsStable}
use Rattle.rule_machine.specs.RuleTable.{RuleTable}
use Rattle.rule_machine.specs.Run.{Entry, Moment, Run}
use Rattle.machine_laws.specs.ChargeWords.{IsUndisturbed, moves_in}

-- If the event is accepted, each run after the event has at most `bound` moves until the next
-- disturbance, whether the run ends silent or not.
abbrev pub BoundsMovesAfter : RuleTable → State → ℕ → Event → ℕ → Type 0
BoundsMovesAfter t s spent event bound =
    (after : State) → Answers t s spent event Accepted after
    → (log : List Entry) (end : Moment) → Run t (record { state = after; spent = 0 }) log end → IsUndisturbed log
    → moves_in log ≤ bound

-- in a silent network, the cost of each event bounds the moves after that event
abbrev pub PaysFromSilence : RuleTable → (State → Event → ℕ) → Type 0
PaysFromSilence t cost =
    (s : State) → IsState s → IsStable t.flags s → (spent : ℕ) (event : Event) → BoundsMovesAfter t s spent event (cost s event)

-- in a silent network, the first cost exceeds the second by at most the third
abbrev pub ExceedsAtMost : RuleTable → (State → Event → ℕ) → (State → Event → ℕ) → (State → Event → ℕ) → Type 0
ExceedsAtMost t silent cost excess =
    (s : State) → IsState s → IsStable t.flags s → (event : Event) → silent s event ≤ cost s event + excess s event
