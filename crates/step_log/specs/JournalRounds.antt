-- The rounds of the entries that a journal keeps, and those of its epochs.
use Rattle.std.specs.Prelude.{◌≡◌, ◌⊎◌, ℕ, ◌+◌, ◌<◌, ◌≤◌, List, [], ◌∷◌, ◌++◌, length, All, Option, None, Some, IfSome}
use Rattle.rule_machine.specs.declared.base.EpochStart.{EpochStart}
use Rattle.rule_machine.specs.declared.base.EpochStart.TheVariants.{At, Forgotten}
use Rattle.rule_machine.specs.declared.event.Event.{Event}
use Rattle.rule_machine.specs.declared.reply.Reply.TheVariants.{Accepted}
use Rattle.rule_machine.specs.Base.{dropped}
use Rattle.rule_machine.specs.RuleTable.{RuleTable}
use Rattle.rule_machine.specs.Run.{Entry, Moment}
use Rattle.machine_laws.specs.ChargeWords.{IsUndisturbed}
use Rattle.round_laws.specs.RoundCounts.{RoundCount, count_of_log, rounds_of}
use Rattle.round_laws.specs.Rounds.{rounds_in}
use Rattle.step_log.specs.declared.epoch.Epoch.{Epoch}
use Rattle.step_log.specs.Headline.{LeadsTo}
use Rattle.step_log.specs.JournalViews.{IsJournal}
use Rattle.step_log.specs.RetainedLogs.{RetainedLog, last_number}

-- the last of these entries is an accepted disturbance
pub record EndsDisturbed (entries : List Entry) : Type 0 where
  pub before : List Entry
  pub event : Event
  pub are : entries ≡ before ++ (event, Accepted) ∷ []

-- Counting began after the entry with this number; `None`: before the base. A count begins after these of the
-- kept entries: counting began there, or it began earlier and the last of them is an accepted disturbance.
abbrev pub CountsAfter : ℕ → Option ℕ → List Entry → Type 0
CountsAfter dropped None entries = EndsDisturbed entries
CountsAfter dropped (Some from) entries = (from ≡ dropped + length entries) ⊎ ((from < dropped + length entries) × EndsDisturbed entries)

-- If a count begins after some of the kept entries, it is the count of the others: its rounds are theirs since
-- the last accepted disturbance.
abbrev pub CountsKept : RuleTable → ℕ → RetainedLog → Option ℕ → Option RoundCount → Type 0
CountsKept t weight kept from counting =
    (before after : List Entry) (m : Moment) → before ++ after ≡ kept.entries → LeadsTo t weight kept before m → CountsAfter (dropped kept.base) from before
    → IfSome counting (λ count. count ≡ count_of_log t m.state after)

-- An epoch with this start begins after these of the kept entries: its number is that of the last of them. If
-- it began before the base, it begins before all of them.
abbrev pub BeginsAfter : ℕ → List Entry → EpochStart → Type 0
BeginsAfter dropped before (At number) = number ≡ dropped + length before
BeginsAfter dropped before Forgotten = before ≡ []

-- The kept entries of the epoch with this start are `own`; no disturbance is accepted among them. `before` are
-- the kept entries before them, and `after` those after them.
pub record EpochEntries (kept : RetainedLog) (start : EpochStart) (after : List Entry) : Type 0 where
  pub before : List Entry
  pub own : List Entry
  pub whole : before ++ (own ++ after) ≡ kept.entries
  pub begins : BeginsAfter (dropped kept.base) before start
  pub calm : IsUndisturbed own

-- The rounds of an epoch, if `after` come after its entries:
-- * counted: if a count begins at the epoch's start or after some of its entries, then its rounds are those
--   of its entries from there on;
-- * uncounted: it has none if rounds are not counted.
pub record HasItsRounds (t : RuleTable) (weight : ℕ) (kept : RetainedLog) (from : Option ℕ) (counting : Option RoundCount) (after : List Entry) (e : Epoch) : Type 0 where
  pub entries : EpochEntries kept e.start after
  pub counted : (early late : List Entry) (m : Moment) → early ++ late ≡ entries.own → LeadsTo t weight kept (entries.before ++ early) m → CountsAfter (dropped kept.base) from (entries.before ++ early)
      → IfSome counting (λ count. e.rounds ≡ Some (rounds_in t m.state late))
  pub uncounted : counting ≡ None → e.rounds ≡ None

-- an epoch that is over, and its rounds: after its entries comes an accepted disturbance
pub record IsOver (t : RuleTable) (weight : ℕ) (kept : RetainedLog) (from : Option ℕ) (counting : Option RoundCount) (e : Epoch) : Type 0 where
  pub event : Event
  pub later : List Entry
  pub rounds : HasItsRounds t weight kept from counting ((event, Accepted) ∷ later) e

-- All epochs but the last are over. The last epoch has the kept entries since its start; its rounds are those of
-- the count.
pub record AreEpochRounds (t : RuleTable) (weight : ℕ) (kept : RetainedLog) (from : Option ℕ) (counting : Option RoundCount) (epochs : List Epoch) : Type 0 where
  pub over : List Epoch
  pub current : Epoch
  pub are : epochs ≡ over ++ current ∷ []
  pub ended : All (IsOver t weight kept from counting) over
  pub rounds : HasItsRounds t weight kept from counting [] current
  pub now : current.rounds ≡ rounds_of counting

-- after an epoch's entries comes nothing, or an accepted disturbance
abbrev pub EndsEpoch : List Entry → Type 0
EndsEpoch [] = Unit {0}
EndsEpoch (entry ∷ after) = entry.1 ≡ Accepted

-- The kept entries are cut into those before the epoch, its own and those after it. If a count begins at the
-- epoch's start, then its rounds are those of its own entries. `epoch_rounds_by_number` proves it for each
-- epoch of a journal.
abbrev pub HasRoundsByNumber : RuleTable → ℕ → RetainedLog → Option ℕ → Option RoundCount → Epoch → Type 0
HasRoundsByNumber t weight kept from counting e =
    (before own after : List Entry) (m : Moment) → before ++ (own ++ after) ≡ kept.entries → e.start ≡ At (dropped kept.base + length before) → IsUndisturbed own → EndsEpoch after
    → LeadsTo t weight kept before m → CountsAfter (dropped kept.base) from before → IfSome counting (λ count. e.rounds ≡ Some (rounds_in t m.state own))

-- a journal, the count of its rounds, if they are counted, and the rounds of its epochs
pub record IsCountedJournal (t : RuleTable) (weight : ℕ) (kept : RetainedLog) (over : List Epoch) (begun : EpochStart) (from : Option ℕ) (counting : Option RoundCount) : Type 0 where
  pub journal : IsJournal t weight kept over begun
  pub within : IfSome from (λ number. number ≤ last_number kept)
  pub counts : CountsKept t weight kept from counting
  pub ended : All (IsOver t weight kept from counting) over
  pub current : EpochEntries kept begun []
