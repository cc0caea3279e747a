-- A journal as contracts see it, and entries that are prepared for it.
use Rattle.std.specs.Prelude.{◌≡◌, ℕ, ◌+◌, ◌<◌, List, map, Option, Some}
use Rattle.rule_machine.specs.declared.base.Base.{Base}
use Rattle.rule_machine.specs.declared.base.EpochStart.{EpochStart}
use Rattle.rule_machine.specs.declared.reply.Reply.TheVariants.{Accepted}
use Rattle.rule_machine.specs.State.{State}
use Rattle.rule_machine.specs.RuleTable.{RuleTable}
use Rattle.rule_machine.specs.Run.{Entry}
use Rattle.rule_machine.specs.Base.{begun_at, dropped}
use Rattle.round_laws.specs.RoundCounts.{RoundCount, first_count}
use Rattle.rule_engine.specs.PreparedEvents.{NetView, IsPrepared}
use Rattle.step_log.specs.declared.receipt.Receipt.{Receipt}
use Rattle.step_log.specs.declared.epoch.Epoch.{Epoch}
use Rattle.step_log.specs.RetainedLogs.{RetainedLog, IsRetainedRun, last_number, moment_in, next_receipt}
use Rattle.step_log.specs.Epochs.{IsEpochPath, of_run}

-- what the journal keeps, each name's room for more neighbours, the room for more entries and epochs, the count
-- of rounds, if they are counted, and after which entry counting began, if not before the base
pub record JournalView : Type 0 where
  pub state : State
  pub spent : ℕ
  pub base : Option Base
  pub entries : List Entry
  pub limit : ℕ
  pub present : ℕ
  pub room : List ℕ
  pub spare : ℕ
  pub spare_epochs : ℕ
  pub counting : Option RoundCount
  pub counted_from : Option ℕ

-- what the journal keeps, without the rooms
abbrev pub kept_of : JournalView → RetainedLog
kept_of held =
    record { state = held.state; spent = held.spent; base = held.base; entries = held.entries; limit = held.limit; present = held.present }

-- the journal's network
abbrev pub net_of : JournalView → NetView
net_of held = record { state = held.state; spent = held.spent; room = held.room; counting = held.counting }

-- the journal whose rounds are counted from here on
abbrev pub counting_journal : RuleTable → JournalView → JournalView
counting_journal t held = record held { counting = Some (first_count t held.state); counted_from = Some (last_number (kept_of held)) }

-- what is kept with this network, base, list of entries after the base, limit, and number of nodes at the
-- start
abbrev pub kept_at : NetView → Option Base → List Entry → ℕ → ℕ → RetainedLog
kept_at net base entries limit present =
    record { state = net.state; spent = net.spent; base = base; entries = entries; limit = limit; present = present }

-- What a journal keeps is a run from its beginning; `over` are the epochs that are over; the current epoch
-- began at `begun`.
pub record IsJournal (t : RuleTable) (weight : ℕ) (kept : RetainedLog) (over : List Epoch) (begun : EpochStart) : Type 0 where
  pub is_kept : IsRetainedRun t weight kept
  pub told : IsEpochPath t (dropped kept.base + 1) (begun_at kept.base) is_kept.start kept.entries (moment_in kept) (map of_run over) begun

-- The receipt is that of the next entry, and recording this entry takes no memory.
pub record IsNextReceipt (t : RuleTable) (held : JournalView) (receipt : Receipt) : Type 0 where
  pub next : receipt ≡ next_receipt t (kept_of held) receipt.event
  pub net : IsPrepared t (net_of held) receipt.event receipt.reply
  pub room : 0 < held.spare
  pub epochs : receipt.reply ≡ Accepted → 0 < held.spare_epochs
  pub below : last_number (kept_of held) < held.limit
