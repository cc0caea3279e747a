-- How many rounds can still be completed.
use Rattle.std.specs.Prelude.{◌≡◌, ℕ, ◌-◌, ◌≤◌, min, List, [], Option, None, Some}
use Rattle.rule_machine.specs.Network.{node_count}
use Rattle.rule_machine.specs.RuleTable.{RuleTable, enabled_names}
use Rattle.rule_machine.specs.Run.{Entry, Moment, Run}
use Rattle.rule_machine.specs.State.{State}
use Rattle.machine_laws.specs.ChargeWords.{IsUndisturbed}
use Rattle.move_bounds.specs.MovesLeft.{moves_left}
use Rattle.round_laws.specs.Rounds.{rounds_from}
use Rattle.round_laws.specs.RoundCounts.{RoundCount}
use Rattle.rule_engine.specs.Rounds.{HasRounds}

-- A run without a disturbance leads to this moment, and this is the count of its rounds. However it goes on
-- without a disturbance, it completes at most this many rounds more: none in silence.
pub record LeavesRounds (t : RuleTable) (m : Moment) (count : RoundCount) (left : ℕ) : Type 0 where
  pub has : HasRounds t m count
  pub most : (rest : List Entry) (end : Moment) → Run t m rest end → IsUndisturbed rest → rounds_from t m.state count.pending rest ≤ left
  pub silent : enabled_names t m.state ≡ [] → left ≡ 0

-- none if rounds are not counted; else at most this many can still come
abbrev pub LeavesIfCounted : RuleTable → Moment → Option RoundCount → Option ℕ → Type 0
LeavesIfCounted t m None left = left ≡ None
LeavesIfCounted t m (Some count) None = ⊥
LeavesIfCounted t m (Some count) (Some left) = LeavesRounds t m count left

-- if rounds are counted: what the number of nodes allows beyond the complete ones, but no more than moves can
-- still come
abbrev pub rounds_left : RuleTable → (ℕ → Option ℕ) → (ℕ → ℕ) → State → Option RoundCount → Option ℕ
rounds_left t most rounds s None = None
rounds_left t most rounds s (Some count) = Some (min (rounds (node_count s.network) - count.rounds) (moves_left t most s))
