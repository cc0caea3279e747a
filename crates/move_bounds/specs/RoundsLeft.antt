-- How many rounds the number of nodes alone allows.
use Rattle.std.specs.Prelude.{ℕ, ◌≤◌, List}
use Rattle.rule_machine.specs.Network.{node_count}
use Rattle.rule_machine.specs.State.{IsState}
use Rattle.rule_machine.specs.RuleTable.{RuleTable}
use Rattle.rule_machine.specs.Run.{Entry, Moment, Run}
use Rattle.machine_laws.specs.ChargeWords.{IsUndisturbed}
use Rattle.round_laws.specs.Rounds.{rounds_in}

-- no run without a disturbance completes more rounds than `most` of the number of nodes at its start
abbrev pub BoundsRoundsByNodes : RuleTable → (ℕ → ℕ) → Type 0
BoundsRoundsByNodes t most =
    (start : Moment) → IsState start.state → (log : List Entry) (end : Moment) → Run t start log end → IsUndisturbed log → rounds_in t start.state log ≤ most (node_count start.state.network)
