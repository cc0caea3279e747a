-- The history of a board: its posted and published entries, how two of its prefixes compare, and adding a
-- mark.
use Rattle.std.specs.Prelude.{ℕ, ◌≡◌, ◌⊎◌, ◌+◌, ◌-◌, ◌==◌, true, List, [], ◌∷◌, ◌++◌, length, take, MatchBool, fold}
use mathlib.Core.List.{IsPrefix}
use Rattle.logbook.specs.Pages.{Cell, Step, View, Book, Named}
use Rattle.rule_machine.specs.Run.{Entry}
use Rattle.snapshots.specs.declared.marks.Mark.{Mark}
use Rattle.snapshots.specs.declared.marks.Mark.TheVariants.{Beginning, Posting, Publication}

-- the published entries, and the posted one, if any
abbrev pub with_mark : List Entry × List Entry → Mark → List Entry × List Entry
with_mark s (Beginning origin) = s
with_mark s (Posting entry) = (s.0, entry ∷ [])
with_mark s Publication = (s.0 ++ s.1, [])

abbrev pub published_and_posted : List Mark → List Entry × List Entry
published_and_posted marks = fold with_mark ([], []) marks

abbrev pub published : List Mark → List Entry
published marks = (published_and_posted marks).0

abbrev pub posted : List Mark → List Entry
posted marks = (published_and_posted marks).1

-- what is published after the posted entry, if any, is published
abbrev pub shown : List Mark → List Entry
shown marks = published marks ++ posted marks

-- ---- two prefixes of one history

abbrev pub but_last : List Entry → List Entry
but_last log = take (length log - 1) log

-- Of a note's log and a view, one is a prefix of the other. A copy has the history as it was before the
-- copy's last entry was published: so if the note has more than the view, the view's last entry is not
-- compared.
abbrev pub IsOneLog : List Entry → List Entry → Type 0
IsOneLog told view = IsPrefix told view ⊎ IsPrefix (but_last view) told

-- the same for two views
abbrev pub AreOneLog : List Entry → List Entry → Type 0
AreOneLog one other = IsPrefix (but_last one) other ⊎ IsPrefix (but_last other) one

-- of the lists of entries that two readers learnt, one is a prefix of the other
abbrev pub AreComparable : List Entry → List Entry → Type 0
AreComparable one other = IsPrefix one other ⊎ IsPrefix other one

-- ---- the rule of the history

-- The word of a book is the number of marks after the first.
abbrev pub AreHistoryCells : List Cell → List Mark → Type 0
AreHistoryCells cells marks = (count : ℕ) × (length marks ≡ count + 1) × (cells ≡ (count, true) ∷ [])

-- how many marks a history has at most
abbrev pub max_marks : ℕ
max_marks = 18446744073709551616

-- the word of a book that is the number of its marks
abbrev pub head_of : Book → Named
head_of b = record { tracked = true; key = 0; book = b }

-- if the expected number is found, the mark was added to all that had been seen
abbrev pub AddsMark : Step Mark → View Mark ℕ → ℕ → View Mark ℕ → Type 0
AddsMark s v found w = MatchBool (found == s.old) (w.0 ≡ v.0 ++ s.ask ∷ []) (Unit {0})
