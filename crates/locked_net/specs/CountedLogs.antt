-- The rounds of a whole log.
use Rattle.std.specs.Prelude.{◌≡◌, ℕ, ◌≤◌, ◌++◌, List, Option, IfSome}
use Rattle.rule_machine.specs.Base.{dropped}
use Rattle.rule_machine.specs.RuleTable.{RuleTable}
use Rattle.rule_machine.specs.Run.{Entry, Moment, Run}
use Rattle.round_laws.specs.RoundCounts.{RoundCount, count_of_log}
use Rattle.snapshots.specs.Starts.{StartsAt}
use Rattle.step_log.specs.JournalRounds.{CountsAfter}
use Rattle.step_log.specs.RetainedLogs.{RetainedLog, last_number}

-- If a count begins after some of the log's entries, it is the count of the others: its rounds are theirs
-- since the last accepted disturbance. A count begins after the entry where counting began, and after each
-- later accepted disturbance.
abbrev pub CountsWholeLog : RuleTable → RetainedLog → Option ℕ → Option RoundCount → Type 0
CountsWholeLog t log from counting =
    (start : Moment) → StartsAt t log.state.network.size log.present log.base start → (before after : List Entry) (m : Moment) → before ++ after ≡ log.entries → Run t start before m → CountsAfter (dropped log.base) from before
    → IfSome counting (λ count. count ≡ count_of_log t m.state after)

-- counting began within the log, and the count is the log's
pub record IsCountedLog (t : RuleTable) (log : RetainedLog) (from : Option ℕ) (counting : Option RoundCount) : Type 0 where
  pub within : IfSome from (λ number. number ≤ last_number log)
  pub counts : CountsWholeLog t log from counting
