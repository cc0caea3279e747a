-- Driven runs: no entry is wasted while a node is enabled.
use Rattle.std.specs.Prelude.{◌≡◌, ◌≤◌, List, [], ◌∷◌, ◌⊎◌}
use Rattle.rule_machine.specs.State.{State}
use Rattle.rule_machine.specs.RuleTable.{RuleTable, enabled_names}
use Rattle.rule_machine.specs.Run.{Entry}
use Rattle.machine_laws.specs.ChargeWords.{moves_of}

-- each entry has a move, or is made in a silent network
abbrev pub IsDriven : RuleTable → State → List (Entry × State) → Type 0
IsDriven t s [] = Unit {0}
IsDriven t s (turn ∷ path) = ((1 ≤ moves_of turn.0.1) ⊎ (enabled_names t s ≡ [])) × IsDriven t turn.1 path
