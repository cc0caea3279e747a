-- Runs with as many rounds as any.
use Rattle.std.specs.Prelude.{◌≡◌, ℕ, List}
use Rattle.rule_machine.specs.Network.{node_count}
use Rattle.rule_machine.specs.State.{IsState}
use Rattle.rule_machine.specs.RuleTable.{RuleTable}
use Rattle.rule_machine.specs.Run.{Entry, Moment, Run}
use Rattle.machine_laws.specs.ChargeWords.{IsUndisturbed}
use Rattle.round_laws.specs.Rounds.{rounds_in}

-- there is a run of n nodes, without a disturbance, that completes this many rounds
pub record HasRun (t : RuleTable) (n : ℕ) (rounds : ℕ) : Type 0 where
  pub start : Moment
  pub is_state : IsState start.state
  pub nodes : node_count start.state.network ≡ n
  pub log : List Entry
  pub last : Moment
  pub run : Run t start log last
  pub calm : IsUndisturbed log
  pub rounds_are : rounds_in t start.state log ≡ rounds
