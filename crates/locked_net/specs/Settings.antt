-- What no call of a network changes, as the network's logs show: the rules, the number of names, the number of
-- nodes at the start, the base at which the network began, if any, and the limit of entry numbers.
use Rattle.std.specs.Prelude.{◌≡◌, ℕ, Option}
use Rattle.rule_machine.specs.declared.base.Base.{Base}
use Rattle.rule_machine.specs.RuleTable.{RuleTable}
use Rattle.step_log.specs.RetainedLogs.{RetainedLog}
use Rattle.locked_net.specs.WholeLogs.{IsWholeLog}

pub record Setting : Type 0 where
  pub table : RuleTable
  pub nodes : ℕ
  pub present : ℕ
  pub base : Option Base
  pub limit : ℕ

-- A log is a run of these rules, with these names, these nodes at the start, this beginning, and this limit.
pub record IsLogIn (setting : Setting) (log : RetainedLog) : Type 0 where
  pub run : IsWholeLog setting.table log
  pub nodes : log.state.network.size ≡ setting.nodes
  pub present : log.present ≡ setting.present
  pub base : log.base ≡ setting.base
  pub limit : log.limit ≡ setting.limit
