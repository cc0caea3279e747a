-- What a network's lock guards, as contracts see it: a whole log, the base of what is kept, what is
-- published, the count of rounds, and what no event changes.
use Rattle.std.specs.Prelude.{◌≡◌, ◌+◌, ℕ, [], Option, Some, is_some}
use Rattle.rule_machine.specs.declared.base.Base.{Base}
use Rattle.rule_machine.specs.Base.{base_of}
use Rattle.rule_machine.specs.RuleTable.{RuleTable}
use Rattle.round_laws.specs.RoundCounts.{RoundCount, first_count}
use Rattle.snapshots.specs.Views.{BoardName, BoardView}
use Rattle.step_log.specs.RetainedLogs.{RetainedLog, last_number, moment_in}
use Rattle.locked_net.specs.WholeLogs.{IsWholeLog}
use Rattle.locked_net.specs.RetainedParts.{IsLogAboveBase, log_over}
use Rattle.locked_net.specs.declared.net_key.NetKey.{NetKey}

-- the whole log, dropped entries included, from the network's beginning; the base of what is kept, if any;
-- the name of the board that publishes the log; the count of rounds, if they are counted; and after which
-- entry counting began, if not before the network's beginning
pub record PublishedJournalView : Type 0 where
  pub log : RetainedLog
  pub base : Option Base
  pub name : BoardName
  pub counting : Option RoundCount
  pub counted_from : Option ℕ

-- the same log and board, with the log's end as the base
abbrev pub based : PublishedJournalView → PublishedJournalView
based published = record published { base = Some (base_of (last_number published.log) (moment_in published.log)) }

-- the same network, whose rounds are counted from the end of its log on
abbrev pub counting_held : RuleTable → PublishedJournalView → PublishedJournalView
counting_held t published = record published { counting = Some (first_count t published.log.state); counted_from = Some (last_number published.log) }

-- The board has published exactly the log; the journal keeps the part of the log above the base. The board
-- has a place for each name and the unused place 0, and began with the nodes of the log's start.
pub record IsPublishedJournal (t : RuleTable) (kept : RetainedLog) (board : BoardView) : Type 0 where
  pub is_log : IsWholeLog t (log_over kept board)
  pub above : IsLogAboveBase t (log_over kept board) kept
  pub posted : board.posted ≡ []
  pub extent : board.name.extent ≡ record { places = kept.state.network.size + 1; present = kept.present; base = board.name.extent.base }

-- ---- what no event changes: the number of names, the nodes at the start, the beginning, the log's limit,
-- and its board; and, besides the lock's key, the base of what is kept, whether rounds are counted, and from
-- which entry on

-- the board's history, a place for each name and the unused place 0, the nodes at the start, and the beginning
abbrev pub name_from : NetKey → BoardName
name_from key = record { book = key.opening.book; extent = record { places = key.nodes + 1; present = key.present; base = key.beginning } }

pub record IsOfKey (key : NetKey) (published : PublishedJournalView) : Type 0 where
  pub nodes : published.log.state.network.size ≡ key.nodes
  pub present : published.log.present ≡ key.present
  pub begun : published.log.base ≡ key.beginning
  pub limit : published.log.limit ≡ key.limit
  pub name : published.name ≡ name_from key

-- Names, nodes at the start, beginning, limit, board and base are unchanged. Rounds are counted after the call
-- if and only if they were counted before, and counting began at the same entry.
pub record KeepsKey (old new : PublishedJournalView) : Type 0 where
  pub nodes : new.log.state.network.size ≡ old.log.state.network.size
  pub present : new.log.present ≡ old.log.present
  pub begun : new.log.base ≡ old.log.base
  pub limit : new.log.limit ≡ old.log.limit
  pub name : new.name ≡ old.name
  pub base : new.base ≡ old.base
  pub counts : is_some new.counting ≡ is_some old.counting
  pub from : new.counted_from ≡ old.counted_from
