-- The bound on moves by the number of nodes alone, and what it means that a run reaches it.
use Rattle.std.specs.Prelude.{◌≡◌, ℕ, ◌+◌, ◌-◌, ◌*◌, ◌/◌, ◌≤◌, List}
use Rattle.rule_machine.specs.Network.{node_count}
use Rattle.rule_machine.specs.State.{IsState}
use Rattle.rule_machine.specs.HsuHuang.{hsu_huang}
use Rattle.rule_machine.specs.Run.{Entry, Moment, Run}
use Rattle.machine_laws.specs.ChargeWords.{moves_in, IsUndisturbed}

-- n²/2 + n - 2, the half rounded down; 0 for one node or none
abbrev pub dense_bound : ℕ → ℕ
dense_bound n = n * n / 2 + n - 2

-- there is a run of n nodes, without a disturbance, with half of n² + 2n - 4 moves, rounded down
pub record HasLongRun (n : ℕ) : Type 0 where
  pub start : Moment
  pub is_state : IsState start.state
  pub nodes : node_count start.state.network ≡ n
  pub log : List Entry
  pub last : Moment
  pub run : Run hsu_huang start log last
  pub calm : IsUndisturbed log
  pub enough : n * n + 2 * n ≤ 2 * moves_in log + 5
