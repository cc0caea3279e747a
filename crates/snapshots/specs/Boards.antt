-- The invariants of a board and of a reader.
use Rattle.std.specs.Prelude.{◌≡◌, ◌⊎◌, ◌+◌, ◌<◌, Bool, List, [], ◌∷◌, ◌++◌, length, map, fold, MatchBool, Option, Some}
use mathlib.Core.List.{IsPrefix}
use Rattle.rule_machine.specs.Run.{Entry}
use Rattle.rule_machine.specs.Base.{dropped}
use Rattle.logbook.specs.Pages.{Book}
use Rattle.snapshots.specs.declared.history.HistoryPrefix.{HistoryPrefix}
use Rattle.snapshots.specs.declared.register_copy.Posted.{Posted}
use Rattle.snapshots.specs.declared.marks.Mark.{Mark}
use Rattle.snapshots.specs.History.{published, posted, shown, max_marks}
use Rattle.snapshots.specs.Origins.{base_before, origin_of}
use Rattle.snapshots.specs.Row.{BoardShape}
use Rattle.snapshots.specs.CopyViews.{CopyView, after}
use Rattle.snapshots.specs.Rule.{ExtendsView, IsSound}

abbrev pub entries_of : List Posted → List Entry
entries_of pending = map (λ p. p.entry) pending

-- a copy after taking in an entry
abbrev pub absorbed : CopyView → Posted → CopyView
absorbed x p = after x p.entry p.front p.past.seen.log p.past.seen.book

-- the pending entries with this one added, if it was appended; otherwise unchanged
abbrev pub Appends : Bool → Posted → List Posted → List Posted → Type 0
Appends appended p old new = MatchBool appended (new ≡ old ++ p ∷ []) (new ≡ old)

-- the copy x with all pending entries taken in may be shown after x
abbrev pub IsPublishable : (BoardShape → List Entry → Type 0) → CopyView → List Posted → Type 0
IsPublishable law x pending = (IsSound law x → IsSound law (fold absorbed x pending)) × ExtendsView (Some x) (fold absorbed x pending)

-- p is the history's last posted entry, with its number; one more mark can be counted
pub record IsPostedLast (x : CopyView) (marks : List Mark) (book : Book) (p : Posted) : Type 0 where
  pub past : p.past.seen.log ≡ marks
  pub same : p.past.seen.book ≡ book
  pub number : p.front ≡ dropped (base_before x.marks) + length (shown x.marks) + 1
  pub last : posted marks ≡ p.entry ∷ []
  pub room : length marks < max_marks

-- The readers' copy shows what the history published, the writer knows it, and at most one entry is pending.
pub record IsBoard (law : BoardShape → List Entry → Type 0) (x : CopyView) (known : Option CopyView) (pending : List Posted) (marks : List Mark) (book : Book) (announced : List Mark) : Type 0 where
  pub sound : IsSound law x
  pub knows : known ≡ Some x
  pub same : book ≡ x.book
  pub origin : origin_of marks ≡ origin_of x.marks
  pub list : published marks ≡ shown x.marks
  pub ready : (pending ≡ []) ⊎ ((p : Posted) × (pending ≡ p ∷ []) × IsPostedLast x marks book p)
  pub is_announced : published announced ≡ shown x.marks
  pub announced_from : origin_of announced ≡ origin_of x.marks

-- the same for the history seen last and the announced prefix
abbrev pub IsBoardOf : (BoardShape → List Entry → Type 0) → CopyView → Option CopyView → List Posted → HistoryPrefix → HistoryPrefix → Type 0
IsBoardOf law x known pending last announced = IsBoard law x known pending last.seen.log last.seen.book announced.seen.log

-- a reader knows a copy that continues what the reader saw
pub record IsReader (known : Option CopyView) (seen : List Mark) (seen_in : Book) (learnt_in : Book) : Type 0 where
  pub copy : CopyView
  pub knows : known ≡ Some copy
  pub sees : seen_in ≡ copy.book
  pub learns : learnt_in ≡ copy.book
  pub begins : IsPrefix (shown seen) (shown copy.marks)
  pub base : base_before seen ≡ base_before copy.marks
