-- The laws of one disturbance of a silent network, for a table of rules: the contracts of the functions of
-- src/law.rt.
use Rattle.std.specs.Prelude.{◌≡◌, ℕ, ◌+◌, ◌*◌, ◌≤◌, Bool, List, length, cond, false, true, Option, None, is_none}
use Rattle.rule_machine.specs.declared.event.Event.{Event}
use Rattle.rule_machine.specs.declared.event.Event.TheVariants.{Point}
use Rattle.rule_machine.specs.declared.reply.Reply.TheVariants.{Accepted}
use Rattle.rule_machine.specs.State.{State, IsState, has_suitor, is_unanswered, married, pointer, points}
use Rattle.rule_machine.specs.RuleTable.{RuleTable}
use Rattle.rule_machine.specs.HsuHuang.{hsu_huang}
use Rattle.rule_machine.specs.Manne.{manne}
use Rattle.rule_machine.specs.Stable.{IsStable, mutual_pairs}
use Rattle.rule_machine.specs.Answer.{Answers}
use Rattle.rule_machine.specs.Run.{Entry, Moment, Run}
use Rattle.machine_laws.specs.ChargeWords.{IsUndisturbed, moves_in}
use Rattle.machine_laws.specs.Costs.{hsu_huang_cost, manne_cost}
use Rattle.silence_laws.specs.Changes.{most_gained, most_lost, nodes_gone}
use Rattle.silence_laws.specs.Costs.{manne_silent_cost, silent_cost}

-- After one disturbance of a stable network at most `most_gained` pairs are gained, whatever the daemon
-- chooses.
abbrev pub FewAreGained : RuleTable → Type 0
FewAreGained t =
    (s : State) → IsState s → IsStable t.flags s → (spent : ℕ) (event : Event) (after : State) → Answers t s spent event Accepted after
    → (log : List Entry) (end : Moment) → Run t (record { state = after; spent = 0 }) log end → IsUndisturbed log
    → length (mutual_pairs end.state) ≤ length (mutual_pairs s) + most_gained s event

-- Once the network is stable again, at most `most_lost` pairs are lost.
abbrev pub FewAreLost : RuleTable → Type 0
FewAreLost t =
    (s : State) → IsState s → IsStable t.flags s → (spent : ℕ) (event : Event) (after : State) → Answers t s spent event Accepted after
    → (log : List Entry) (end : Moment) → Run t (record { state = after; spent = 0 }) log end → IsUndisturbed log → IsStable t.flags end.state
    → length (mutual_pairs s) ≤ length (mutual_pairs end.state) + most_lost s event

-- By Manne's rules the moves after one disturbance of a stable network are at most its cost, plus 2 if a
-- new pair may form, plus 1 for `leave`.
abbrev pub ManneMovesArePaid : Type 0
ManneMovesArePaid =
    (s : State) → IsState s → IsStable manne.flags s → (spent : ℕ) (event : Event) (after : State) → Answers manne s spent event Accepted after
    → (log : List Entry) (end : Moment) → Run manne (record { state = after; spent = 0 }) log end → IsUndisturbed log
    → moves_in log ≤ manne_cost s event + 2 * most_gained s event + nodes_gone event

-- By Hsu and Huang's rules the moves after one disturbance of a stable network are at most its silent cost.
abbrev pub SilentCostPays : Type 0
SilentCostPays =
    (s : State) → IsState s → IsStable false s → (spent : ℕ) (event : Event) (after : State) → Answers hsu_huang s spent event Accepted after
    → (log : List Entry) (end : Moment) → Run hsu_huang (record { state = after; spent = 0 }) log end → IsUndisturbed log
    → moves_in log ≤ silent_cost s event

-- By Manne's rules the moves after one disturbance of a stable network are at most its silent cost.
abbrev pub ManneSilentCostPays : Type 0
ManneSilentCostPays =
    (s : State) → IsState s → IsStable manne.flags s → (spent : ℕ) (event : Event) (after : State) → Answers manne s spent event Accepted after
    → (log : List Entry) (end : Moment) → Run manne (record { state = after; spent = 0 }) log end → IsUndisturbed log
    → moves_in log ≤ manne_silent_cost s event

-- By Manne's rules the silent cost is at most the table's cost, plus 2 if a new pair may form, plus 1 for
-- `leave`.
abbrev pub ManneSilentCostIsLess : Type 0
ManneSilentCostIsLess =
    (s : State) → IsState s → IsStable manne.flags s → (event : Event) → manne_silent_cost s event ≤ manne_cost s event + 2 * most_gained s event + nodes_gone event

-- By Hsu and Huang's rules the silent cost is at most the table's cost.
abbrev pub SilentCostIsLess : Type 0
SilentCostIsLess =
    (s : State) → IsState s → IsStable false s → (event : Event) → silent_cost s event ≤ hsu_huang_cost s event

-- Writing the value that a pointer already has changes nothing, from any state.
abbrev pub RewritingChangesNothing : Type 0
RewritingChangesNothing =
    (t : RuleTable) (s : State) (spent : ℕ) (v : ℕ) (after : State) → Answers t s spent (Point v (pointer s v)) Accepted after → after ≡ s

-- By Hsu and Huang's rules changing the pointer of a paired node causes at least 2 moves fewer than the
-- table's cost, and at least 3 fewer if the new pointer is null.
abbrev pub TurnedCostsLess : Type 0
TurnedCostsLess =
    (s : State) → IsState s → IsStable false s → (spent : ℕ) (v : ℕ) (target : Option ℕ) (after : State) → Answers hsu_huang s spent (Point v target) Accepted after
    → married s v ≡ true → (pointer s v ≡ target → ⊥) → (log : List Entry) (end : Moment) → Run hsu_huang (record { state = after; spent = 0 }) log end → IsUndisturbed log
    → moves_in log + cond (is_none target) 3 2 ≤ hsu_huang_cost s (Point v target)

-- In a stable network each target points back, no node with a null pointer has a suitor, and two nodes
-- point at each other or neither points at the other. So the table's costs for such nodes and edges never
-- apply.
abbrev pub NobodyWaits : Type 0
NobodyWaits =
    (uses_flags : Bool) (s : State) → IsStable uses_flags s
    → ((v : ℕ) → is_unanswered s v ≡ false) × ((v : ℕ) → pointer s v ≡ None → has_suitor s v ≡ false) × ((a b : ℕ) → points s.registers a b ≡ points s.registers b a)
