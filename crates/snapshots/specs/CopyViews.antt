-- One copy as contracts see it.
use Rattle.std.specs.Prelude.{ℕ, Bool, false, List, Option, None, Some, length, if◌then◌else◌, nat_lt, slice_index_or}
use Rattle.rule_machine.specs.Base.{dropped}
use Rattle.rule_machine.specs.Run.{Entry}
use Rattle.logbook.specs.Pages.{Book}
use Rattle.snapshots.specs.declared.marks.Mark.{Mark}
use Rattle.snapshots.specs.Origins.{nodes_before, base_before}
use Rattle.snapshots.specs.Row.{Row, BoardShape, pointer_in, partner_in, row_effect, row_at_start, here_at_start, here_by, pointers_after, here_after}

-- the pointers and, for each place, whether its node is present; the number of the last entry, and the prefix of
-- the history that shows the entries
pub record CopyView : Type 0 where
  pub row : Row
  pub here : List Bool
  pub front : ℕ
  pub marks : List Mark
  pub book : Book

-- a copy before any entry
abbrev pub copy_at_start : BoardShape → List Mark → Book → CopyView
copy_at_start extent marks book =
    record { row = row_at_start extent; here = here_at_start extent; front = dropped extent.base; marks = marks; book = book }

-- how many places a copy has, how many nodes there were before any entry, and the base, if any
abbrev pub extent_of : CopyView → BoardShape
extent_of x = record { places = length x.row; present = nodes_before x.marks; base = base_before x.marks }

-- a copy after one more entry
abbrev pub after : CopyView → Entry → ℕ → List Mark → Book → CopyView
after x entry front marks book =
    record { row = row_effect x.row entry; here = here_by x.here entry; front = front; marks = marks; book = book }

-- the pointer at a place, and the target if the target points back; none if there is no such place
abbrev pub held_in : Row → ℕ → Option (Option ℕ × Option ℕ)
held_in row place = if nat_lt place (length row) then Some (pointer_in row place, partner_in row place) else None

-- the same if the place's node is present, otherwise none
abbrev pub found_in : Row → List Bool → ℕ → Option (Option ℕ × Option ℕ)
found_in row here place = if slice_index_or here place false then held_in row place else None

-- what is found at a place after these entries
abbrev pub found_after : BoardShape → List Entry → ℕ → Option (Option ℕ × Option ℕ)
found_after extent log place = found_in (pointers_after extent log) (here_after extent log) place
