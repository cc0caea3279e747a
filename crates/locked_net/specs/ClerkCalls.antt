-- What every call of a clerk says, besides the event that it recorded.
--
-- A call with a reply has recorded an entry. A call that may have nothing to record returns an option. So a
-- record of a call is given one of the two words below for its answers.
use Rattle.std.specs.Prelude.{◌≡◌, ◌<◌, ℕ, Option, None, Result, Ok, Err, IfOk, MatchOption, OnErr}
use mathlib.Core.List.{IsPrefix}
use Rattle.logbook.specs.Pages.{Book}
use Rattle.locked_net.specs.declared.fault.CallFault.{CallFault}
use Rattle.locked_net.specs.declared.fault.StepFault.{StepFault}
use Rattle.locked_net.specs.Receipts.{ClerkView, HasNoteOf, front_of, seen_by, noted}
use Rattle.locked_net.specs.PublishedJournals.{PublishedJournalView, KeepsKey}
use Rattle.locked_net.specs.Calls.{ExplainsCallFault, ExplainsStep}

-- each answer follows an entry
abbrev pub each : {A : Type 0} → A → Type 0 → Type 0 → Type 0
each answer Idle Recorded = Recorded

-- `Some` follows an entry, and `None` follows none
abbrev pub some_of : {A : Type 0} → Option A → Type 0 → Type 0 → Type 0
some_of answer Idle Recorded = MatchOption answer Idle (λ _. Recorded)

-- The clerk has a note of this history. Its last receipt has a number above all that the clerk had seen.
pub record AddsReceipt (book : Book) (old new : ClerkView) : Type 0 where
  pub note : HasNoteOf book new
  pub above : seen_by old < front_of new.receipts

module _ {A E : Type 0} (Answers : A → Type 0 → Type 0 → Type 0) where
  -- A clerk's call of a network with this history. The clerk's base stays. An entry adds a receipt; without
  -- an entry, or after a fault, the clerk is unchanged.
  pub record ClerkCall (book : Book) (old new : ClerkView) (result : Result A E) : Type 0 where
    pub base : new.base ≡ old.base
    pub added : IfOk result (λ answer. Answers answer (new ≡ old) (AddsReceipt book old new))
    pub kept : OnErr result (new ≡ old)

  -- A clerk's call of a network whose lock is held. After an entry, the log before is a prefix of the log of
  -- the clerk's note. Without an entry, or after a fault, the network is unchanged.
  pub record HeldCall (before after : PublishedJournalView) (old new : ClerkView) (result : Result A E) : Type 0 where
    pub clerk : ClerkCall before.name.book old new result
    pub key : KeepsKey before after
    pub begins : IfOk result (λ answer. Answers answer (after ≡ before) (IsPrefix before.log.entries (noted new.note)))
    pub kept : OnErr result (after ≡ before)

-- the call failed with the fault that was found, or without one for memory; it succeeded without one
abbrev pub Admits : {A : Type 0} → Option CallFault → Result A CallFault → Type 0
Admits found (Ok answer) = found ≡ None
Admits found (Err fault) = ExplainsCallFault found fault

-- the same for a step that workers judge, which needs a worker
abbrev pub AdmitsStep : {A : Type 0} → Option CallFault → ℕ → Result A StepFault → Type 0
AdmitsStep found workers (Ok answer) = (found ≡ None) × (0 < workers)
AdmitsStep found workers (Err fault) = ExplainsStep found workers fault
