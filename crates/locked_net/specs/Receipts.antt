-- What a clerk keeps: a receipt for each reply, oldest first, with the number of the log's entry; a note of
-- what was published at the last receipt or later; and the greatest number that a checkpoint returned.
use Rattle.std.specs.Prelude.{◌≡◌, ℕ, ◌<◌, ◌-◌, max, List, [], ◌∷◌, Option, None, Some, IfSome, IsSomeAnd, slice_get}
use Rattle.rule_machine.specs.Base.{dropped}
use Rattle.rule_machine.specs.Run.{Entry}
use Rattle.step_log.specs.declared.receipt.Receipt.{Receipt}
pub use Rattle.step_log.specs.Receipts.{ReceiptsView, RiseAbove, base_from, base_number, greater_base}
use Rattle.logbook.specs.Pages.{Book}
use Rattle.snapshots.specs.Views.{PublishedLog}

-- the number of the last receipt; `front` if there is none
abbrev pub front_from : ℕ → List Receipt → ℕ
front_from front [] = front
front_from front (receipt ∷ receipts) = front_from receipt.seq receipts

-- the number of a clerk's last receipt; 0 if it has none
abbrev pub front_of : List Receipt → ℕ
front_of receipts = front_from 0 receipts

-- Entries are numbered after `start`. The receipt is the entry with the receipt's number: the same event with
-- the same reply.
pub record IsReceiptOf (start : ℕ) (log : List Entry) (receipt : Receipt) : Type 0 where
  pub numbered : start < receipt.seq
  pub same : slice_get log (receipt.seq - start - 1) ≡ Some (receipt.event, receipt.reply)

-- a clerk as contracts see it
pub record ClerkView : Type 0 where
  pub receipts : List Receipt
  pub note : Option PublishedLog
  pub base : Option ℕ

-- what the clerk's receipts are settled by
abbrev pub receipts_of : ClerkView → ReceiptsView
receipts_of clerk = record { receipts = clerk.receipts; base = clerk.base }

-- the greatest entry number that a clerk with this base has seen, in its last receipt or from a checkpoint
abbrev pub seen_from : Option ℕ → List Receipt → ℕ
seen_from base receipts = max (front_of receipts) (base_from base)

abbrev pub seen_by : ClerkView → ℕ
seen_by clerk = seen_from clerk.base clerk.receipts

-- a clerk that has made no call
abbrev pub fresh : ClerkView
fresh = record { receipts = []; note = None; base = None }

-- the last receipt is the log's entry with the number of this receipt
abbrev pub StandsLastFrom : ℕ → List Entry → Receipt → List Receipt → Type 0
StandsLastFrom start log receipt [] = IsReceiptOf start log receipt
StandsLastFrom start log receipt (next ∷ receipts) = StandsLastFrom start log next receipts

-- the same, if there is any receipt
abbrev pub StandsLast : ℕ → List Entry → List Receipt → Type 0
StandsLast start log [] = Unit {0}
StandsLast start log (receipt ∷ receipts) = StandsLastFrom start log receipt receipts

-- a clerk with a receipt has a note, and the note's log has the entry of the last receipt
abbrev pub NotesLast : List Receipt → Option PublishedLog → Type 0
NotesLast receipts None = receipts ≡ []
NotesLast receipts (Some note) = StandsLast (dropped note.base) note.log receipts

-- the entries of a note; none if there is no note
abbrev pub noted : Option PublishedLog → List Entry
noted None = []
noted (Some note) = note.log

-- the numbers of the receipts rise, and the note's log has the entry of the last receipt
pub record IsClerk (clerk : ClerkView) : Type 0 where
  pub rise : RiseAbove 0 clerk.receipts
  pub last : NotesLast clerk.receipts clerk.note

-- there is a note, and the note is of this history
abbrev pub HasNoteOf : Book → ClerkView → Type 0
HasNoteOf book clerk = IsSomeAnd clerk.note (λ note. note.book ≡ book)

-- if there is a note, the note is of this history
abbrev pub IsOfBook : Book → ClerkView → Type 0
IsOfBook book clerk = IfSome clerk.note (λ note. note.book ≡ book)
