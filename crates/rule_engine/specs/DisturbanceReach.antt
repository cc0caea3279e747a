-- The nodes that an event would reach, and nodes that stay as they are.
use Rattle.std.specs.Prelude.{◌≡◌, ℕ, Bool, false, ◌&&◌, List, filter, Contains, IsTrue}
use Rattle.rule_machine.specs.declared.event.Event.{Event}
use Rattle.rule_machine.specs.Network.{names, present}
use Rattle.rule_machine.specs.State.{State}
use Rattle.rule_machine.specs.RuleTable.{RuleTable}
use Rattle.rule_machine.specs.declared.reply.Reply.TheVariants.{Accepted}
use Rattle.rule_machine.specs.Answer.{Answers}
use Rattle.rule_machine.specs.Run.{Entry, Moment, Run}
use Rattle.machine_laws.specs.ChargeWords.{IsUndisturbed}
use Rattle.containment_laws.specs.Rest.{is_at_rest}
use Rattle.containment_laws.specs.Movers.{has_moved, KeepsRegisters}
use Rattle.containment_laws.specs.Reach.{is_in_reach}
use Rattle.rule_engine.specs.Costs.{disturbs}

-- whether the event, an edit or a fault that is not refused, would reach v; false for any other event
abbrev pub would_reach : RuleTable → State → Event → ℕ → Bool
would_reach t s event v = disturbs t s event && is_in_reach s event v

-- the nodes, ascending, that the event would reach
abbrev pub reach_of : RuleTable → State → Event → List ℕ
reach_of t s event = filter (would_reach t s event) (names s.network)

-- if the event is accepted, each node at rest that is not in the list stays at rest, with the same registers
abbrev pub Spares : RuleTable → State → ℕ → Event → List ℕ → Type 0
Spares t s spent event reach =
    (after : State) → Answers t s spent event Accepted after
    → (v : ℕ) → IsTrue (present s.network v) → IsTrue (is_at_rest t.flags s v) → (Contains reach v → ⊥)
    → IsTrue (is_at_rest t.flags after v) × (IsTrue (present after.network v) → KeepsRegisters s after v)

-- in any run from this moment without a disturbance v never moves, keeps its registers and ends at rest
abbrev pub StaysAtRest : RuleTable → Moment → ℕ → Type 0
StaysAtRest t m v =
    (log : List Entry) (end : Moment) → Run t m log end → IsUndisturbed log
    → (has_moved log v ≡ false) × KeepsRegisters m.state end.state v × IsTrue (is_at_rest t.flags end.state v)
