-- A whole log from a network's beginning, and the part of it above a journal's base.
use Rattle.std.specs.Prelude.{◌≡◌, ℕ, ◌+◌, ◌++◌, ◌⊎◌, List, [], Option, Some, length}
use Rattle.std.specs.List.{All}
use mathlib.Core.List.{IsPrefix}
use Rattle.rule_machine.specs.declared.base.Base.{Base}
use Rattle.rule_machine.specs.RuleTable.{RuleTable}
use Rattle.rule_machine.specs.Run.{Entry, Moment, Run}
use Rattle.rule_machine.specs.Base.{base_of, dropped}
use Rattle.step_log.specs.RetainedLogs.{RetainedLog, IsRetainedRun}
use Rattle.snapshots.specs.Starts.{StartsAt}
use Rattle.snapshots.specs.Views.{BoardView}
use Rattle.step_log.specs.JournalViews.{JournalView, kept_of}
use Rattle.locked_net.specs.Receipts.{ClerkView, noted}
use Rattle.locked_net.specs.Settings.{Setting, IsLogIn}

-- Nothing is below and the base is the log's beginning, or the base is made from the moment to which the
-- entries below lead.
abbrev pub TellsEnd : RuleTable → RetainedLog → List Entry → Option Base → Type 0
TellsEnd t log below base =
    ((below ≡ []) × (base ≡ log.base))
    ⊎ ((start : Moment) × (m : Moment) × StartsAt t log.state.network.size log.present log.base start × Run t start below m × (base ≡ Some (base_of (dropped log.base + length below) m)))

-- What is kept of the log is the part of its entries above the base. The base is the log's beginning, or the
-- moment after the entries below. State, spent moves, limit and nodes at the start are the log's.
pub record IsLogAboveBase (t : RuleTable) (log kept : RetainedLog) : Type 0 where
  pub below : List Entry
  pub splits : log.entries ≡ below ++ kept.entries
  pub count : dropped log.base + length below ≡ dropped kept.base
  pub tells : TellsEnd t log below kept.base
  pub state : kept.state ≡ log.state
  pub spent : kept.spent ≡ log.spent
  pub limit : kept.limit ≡ log.limit
  pub present : kept.present ≡ log.present

-- the whole log that a board publishes: the board's entries from its beginning, and all else from what is kept
abbrev pub log_over : RetainedLog → BoardView → RetainedLog
log_over kept board =
    record { state = kept.state; spent = kept.spent; base = board.name.extent.base; entries = board.list; limit = kept.limit; present = kept.present }

-- There is a whole log in the setting, and the part of this log above the base is kept.
pub record IsPartOfLog (setting : Setting) (kept : RetainedLog) : Type 0 where
  pub log : RetainedLog
  pub own : IsLogIn setting log
  pub above : IsLogAboveBase setting.table log kept

-- A journal that a fault returns keeps a run of the rules. This run is the part, above the base, of a log in
-- the setting; the journal has the setting's sizes.
abbrev pub IsBack : Setting → ℕ → JournalView → Type 0
IsBack setting weight journal =
    IsRetainedRun setting.table weight (kept_of journal) × IsPartOfLog setting (kept_of journal)
    × (journal.state.network.size ≡ setting.nodes) × (journal.present ≡ setting.present) × (journal.limit ≡ setting.limit)

-- What is kept is part of a whole log in the setting. The log of each clerk's note is a prefix of this whole
-- log.
pub record IsPartNoted (setting : Setting) (kept : RetainedLog) (clerks : List ClerkView) : Type 0 where
  pub part : IsPartOfLog setting kept
  pub begins : All (λ clerk. IsPrefix (noted clerk.note) part.log.entries) clerks
