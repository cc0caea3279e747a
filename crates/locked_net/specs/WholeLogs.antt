-- The whole log under a network's lock.
--
-- What is kept of it may begin at a later checkpoint. The whole log begins where the network began: at the
-- opening state, or at a base. This base is the log's. The entries are all since then, dropped ones included,
-- and their numbers go on after the base's.
use Rattle.std.specs.Prelude.{◌≤◌}
use Rattle.rule_machine.specs.RuleTable.{RuleTable}
use Rattle.rule_machine.specs.Run.{Moment, Run}
use Rattle.snapshots.specs.Starts.{StartsAt}
use Rattle.step_log.specs.Log.{max_entries}
use Rattle.step_log.specs.RetainedLogs.{RetainedLog, last_number, moment_in}

-- the entries are a run of the machine from the network's beginning to the log's state and spent moves;
-- numbers are within the limit
pub record IsWholeLog (t : RuleTable) (log : RetainedLog) : Type 0 where
  pub start : Moment
  pub begins : StartsAt t log.state.network.size log.present log.base start
  pub run : Run t start log.entries (moment_in log)
  pub size : log.state.network.size ≤ 65535
  pub room : last_number log ≤ log.limit
  pub limit : log.limit ≤ max_entries
