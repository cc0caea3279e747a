-- When the receipts of some clerks account for what is kept of a log, and why they do not.
--
-- Each clerk has a list of receipts. If a log and clerks are settled, two things are true. Each reply that a
-- clerk got is the log's reply to that event, at the receipt's number. The log has nothing else: each of its
-- entries belongs to exactly one of these clerks. Of dropped entries only the numbers are compared. The last
-- dropped number is the greatest that a checkpoint returned to one of these clerks.
--
-- `begun` is the number of the base at which the log began; entries are numbered after it. There is none if the
-- log began at the opening state; then numbers begin at 1.
use Rattle.std.specs.Prelude.{◌≡◌, ◌≢◌, ℕ, ◌-◌, ◌<◌, ◌≤◌, ◌⊎◌, List, Option, Some, fold, length, slice_get, ◌+◌, Bool, true, false, take, slice_index_or}
use Rattle.std.specs.List.{sum_by, count_by}
use Rattle.rule_machine.specs.Base.{dropped}
use Rattle.step_log.specs.RetainedLogs.{RetainedLog, last_number}
use Rattle.step_log.specs.declared.receipt.Receipt.{Receipt}
use Rattle.step_log.specs.declared.settle_fault.SettleFault.{SettleFault}
use Rattle.step_log.specs.declared.settle_fault.SettleFault.TheVariants.{CountDiffers, BaseDiffers, Stranger, Memory}
use Rattle.step_log.specs.Receipts.{ReceiptsView, RiseAbove, base_from, base_number, greater_base}

-- how many receipts the clerks have together
abbrev pub receipt_count : List ReceiptsView → ℕ
receipt_count clerks = sum_by (λ clerk. length clerk.receipts) clerks

-- The greatest number that a checkpoint returned to one of the clerks, or the number of the beginning if no clerk
-- has a greater one. None if no clerk has such a number and the log begins at the opening state.
abbrev pub greatest_base : Option ℕ → List ReceiptsView → Option ℕ
greatest_base begun clerks = fold (λ greatest clerk. greater_base greatest clerk.base) begun clerks

-- how many entries there are, kept or dropped
abbrev pub entry_count : Option ℕ → RetainedLog → ℕ
entry_count begun kept = last_number kept - base_from begun

-- The receipt's number is above that of the beginning and in the log. If the entry with this number is kept, that
-- entry has the receipt's event and reply.
pub record IsEntryAbove (begun : Option ℕ) (kept : RetainedLog) (receipt : Receipt) : Type 0 where
  pub numbered : base_from begun < receipt.seq
  pub within : receipt.seq ≤ last_number kept
  pub same : dropped kept.base < receipt.seq → slice_get kept.entries (receipt.seq - dropped kept.base - 1) ≡ Some (receipt.event, receipt.reply)

-- clerk c has this receipt at place p; c and p are counted from 0
pub record StandsAt (clerks : List ReceiptsView) (c p : ℕ) (receipt : Receipt) : Type 0 where
  pub clerk : ReceiptsView
  pub of_clerk : slice_get clerks c ≡ Some clerk
  pub at_place : slice_get clerk.receipts p ≡ Some receipt

-- clerk c has a receipt with the number n
pub record HasReceiptNumber (clerks : List ReceiptsView) (c n : ℕ) : Type 0 where
  pub place : ℕ
  pub receipt : Receipt
  pub stands : StandsAt clerks c place receipt
  pub numbered : receipt.seq ≡ n

-- The log and the clerks are settled:
-- * told: each receipt is the log's entry with the receipt's number, or has the number of a dropped entry;
-- * rise: the numbers rise within each clerk;
-- * count: there are exactly as many receipts as entries, kept or dropped;
-- * held: each entry belongs to a clerk;
-- * once: no entry belongs to two clerks;
-- * based: the entries were dropped up to the greatest number that a checkpoint returned to one of the
--   clerks; without a checkpoint, none was dropped since the beginning.
pub record Settlement (begun : Option ℕ) (kept : RetainedLog) (clerks : List ReceiptsView) : Type 0 where
  pub told : (c p : ℕ) (clerk : ReceiptsView) (receipt : Receipt) → slice_get clerks c ≡ Some clerk → slice_get clerk.receipts p ≡ Some receipt → IsEntryAbove begun kept receipt
  pub rise : (c : ℕ) (clerk : ReceiptsView) → slice_get clerks c ≡ Some clerk → RiseAbove 0 clerk.receipts
  pub count : receipt_count clerks ≡ entry_count begun kept
  pub held : (n : ℕ) → base_from begun < n → n ≤ last_number kept → (c : ℕ) × HasReceiptNumber clerks c n
  pub once : (n c d : ℕ) → HasReceiptNumber clerks c n → HasReceiptNumber clerks d n → c ≡ d
  pub based : base_number kept.base ≡ greatest_base begun clerks

-- place q of clerk d comes before place p of clerk c: by clerk, then by place
abbrev pub IsEarlierReceipt : ℕ → ℕ → ℕ → ℕ → Type 0
IsEarlierReceipt d q c p = (d < c) ⊎ ((d ≡ c) × (q < p))

-- The receipt at place p of clerk c agrees: it is the log's entry with its number, if that entry is kept,
-- and no receipt before it has the same number. `own_numbers_never_clash` proves that only earlier clerks can
-- have the number, if each clerk's numbers rise.
pub record Agrees (begun : Option ℕ) (kept : RetainedLog) (clerks : List ReceiptsView) (c p : ℕ) (receipt : Receipt) : Type 0 where
  pub entry : IsEntryAbove begun kept receipt
  pub new : (d q : ℕ) (other : Receipt) → IsEarlierReceipt d q c p → StandsAt clerks d q other → other.seq ≢ receipt.seq

-- The receipt at place p of clerk c does not agree, and all receipts before it agree.
pub record IsFirstStranger (begun : Option ℕ) (kept : RetainedLog) (clerks : List ReceiptsView) (c p : ℕ) : Type 0 where
  pub receipt : Receipt
  pub stands : StandsAt clerks c p receipt
  pub strange : Agrees begun kept clerks c p receipt → ⊥
  pub first : (d q : ℕ) (other : Receipt) → IsEarlierReceipt d q c p → StandsAt clerks d q other → Agrees begun kept clerks d q other

-- Why the log and the clerks were not settled. A difference in numbers comes first, then a differing base,
-- then a stranger. `Memory` says nothing about these three. `settling_is_exact` proves that a settled log has
-- none of these three.
abbrev pub Unsettles : Option ℕ → RetainedLog → List ReceiptsView → SettleFault → Type 0
Unsettles begun kept clerks CountDiffers = receipt_count clerks ≢ entry_count begun kept
Unsettles begun kept clerks BaseDiffers = (receipt_count clerks ≡ entry_count begun kept) × (base_number kept.base ≢ greatest_base begun clerks)
Unsettles begun kept clerks (Stranger clerk place) =
    (receipt_count clerks ≡ entry_count begun kept) × (base_number kept.base ≡ greatest_base begun clerks) × IsFirstStranger begun kept clerks clerk place
Unsettles begun kept clerks Memory = Unit {0}

-- ---- how receipts are settled, in order: a table has a mark for each entry that an earlier receipt has named

-- a receipt before place p of clerk c has the number n
pub record IsNumbered (clerks : List ReceiptsView) (c p n : ℕ) : Type 0 where
  pub clerk : ℕ
  pub place : ℕ
  pub receipt : Receipt
  pub before : IsEarlierReceipt clerk place c p
  pub stands : StandsAt clerks clerk place receipt
  pub numbered : receipt.seq ≡ n

-- the mark of the entry with this number
abbrev pub mark_of : Option ℕ → List Bool → ℕ → Bool
mark_of begun marks number = slice_index_or marks (number - base_from begun - 1) false

-- All receipts before place p of clerk c agree, the numbers of each clerk before c rise, and exactly these
-- receipts are marked, each by a mark of its own.
pub record AreReceiptMarks (begun : Option ℕ) (kept : RetainedLog) (clerks : List ReceiptsView) (c p : ℕ) (marks : List Bool) : Type 0 where
  pub size : length marks ≡ entry_count begun kept
  pub agree : (d q : ℕ) (other : Receipt) → IsEarlierReceipt d q c p → StandsAt clerks d q other → Agrees begun kept clerks d q other
  pub rise : (d : ℕ) (clerk : ReceiptsView) → d < c → slice_get clerks d ≡ Some clerk → RiseAbove 0 clerk.receipts
  pub marked : (d q : ℕ) (other : Receipt) → IsEarlierReceipt d q c p → StandsAt clerks d q other → mark_of begun marks other.seq ≡ true
  pub numbered : (k : ℕ) → slice_index_or marks k false ≡ true → IsNumbered clerks c p (base_from begun + k + 1)
  pub count : count_by (λ mark. mark) marks ≡ sum_by (λ clerk. length clerk.receipts) (take c clerks) + p
