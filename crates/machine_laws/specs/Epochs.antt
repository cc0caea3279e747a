-- Paths of a run, and epochs within their bound.
use Rattle.std.specs.Prelude.{ℕ, ◌+◌, ◌*◌, ◌≤◌, List, [], ◌∷◌}
use Rattle.rule_machine.specs.State.{State}
use Rattle.rule_machine.specs.RuleTable.{RuleTable}
use Rattle.rule_machine.specs.Answer.{Answers, spent_after}
use Rattle.rule_machine.specs.Run.{Entry, Moment, Epoch}

-- From this moment on, the machine may give these entries; each is paired with the state after the entry.
abbrev pub IsPath : RuleTable → Moment → List (Entry × State) → Type 0
IsPath t start [] = Unit {0}
IsPath t start (step ∷ path) =
    Answers t start.state start.spent step.0.0 step.0.1 step.1 × IsPath t (record { state = step.1; spent = spent_after start.spent step.0.1 }) path

-- an epoch with at most as many moves as its bound
abbrev pub IsBoundedEpoch : ℕ → Epoch → Type 0
IsBoundedEpoch weight epoch = epoch.moves ≤ 2 * epoch.edges + weight * epoch.nodes
