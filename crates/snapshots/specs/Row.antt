-- The pointers and present nodes as a log of events and replies changes them. A name is its own place; place
-- 0 is unused.
use Rattle.std.specs.Prelude.{◌≡◌, ℕ, ◌+◌, Bool, true, false, ◌&&◌, List, Option, None, Some, fold, map, replicate, nat_le, slice_index_or, slice_set, if◌then◌else◌}
use Rattle.std.specs.List.{range_with_len}
use Rattle.rule_machine.specs.declared.act.Act.{Act}
use Rattle.rule_machine.specs.declared.act.Act.TheVariants.{Update, Marry, Seduce, Abandon}
use Rattle.rule_machine.specs.declared.event.Event.{Event}
use Rattle.rule_machine.specs.declared.event.Event.TheVariants.{Unlink, Point, Join, Leave}
use Rattle.rule_machine.specs.declared.act.Moved.{Moved}
use Rattle.rule_machine.specs.declared.base.NodeRecord.{NodeRecord}
use Rattle.rule_machine.specs.declared.base.Base.{Base}
use Rattle.rule_machine.specs.declared.reply.Reply.{Reply}
use Rattle.rule_machine.specs.declared.reply.Reply.TheVariants.{Accepted, Moves}
use Rattle.rule_machine.specs.State.{is_at}
use Rattle.rule_machine.specs.Disturbance.{unless_at}
use Rattle.rule_machine.specs.RuleTable.{RuleTable}
use Rattle.rule_machine.specs.Run.{Entry, Moment, Run}
use Rattle.snapshots.specs.Starts.{StartsAt}

abbrev pub Row : Type 0
Row = List (Option ℕ)

-- the target of v, if any
abbrev pub pointer_in : Row → ℕ → Option ℕ
pointer_in row v = slice_index_or row v None

abbrev pub returned : Row → ℕ → Option ℕ → Option ℕ
returned row v None = None
returned row v (Some w) = if is_at (pointer_in row w) v then Some w else None

-- the target of v, if the target points at v
abbrev pub partner_in : Row → ℕ → Option ℕ
partner_in row v = returned row v (pointer_in row v)

-- v's pointer becomes null if it points at w
abbrev pub without_pointer_at : Row → ℕ → ℕ → Row
without_pointer_at row v w = if is_at (pointer_in row v) w then slice_set row v None else row

abbrev pub moved_by : Row → ℕ → Act → Option ℕ → Row
moved_by row v Update target = row
moved_by row v Marry target = slice_set row v target
moved_by row v Seduce target = slice_set row v target
moved_by row v Abandon target = slice_set row v None

abbrev pub moved : Row → Moved → Row
moved row m = moved_by row m.node m.act m.target

-- what an accepted edit or fault does
abbrev pub disturbed_row : Row → Event → Row
disturbed_row row (Unlink a b) = without_pointer_at (without_pointer_at row a b) b a
disturbed_row row (Point v target) = slice_set row v target
disturbed_row row (Leave v) = slice_set (map (unless_at v) row) v None
disturbed_row row event = row

-- the pointers after an event with this reply: only accepted events and the moves of a step change a pointer
abbrev pub effect_of : Row → Event → Reply → Row
effect_of row event Accepted = disturbed_row row event
effect_of row event (Moves moves) = fold moved row moves
effect_of row event reply = row

abbrev pub row_effect : Row → Entry → Row
row_effect row entry = effect_of row entry.0 entry.1

-- How many places there are, and how many nodes before any entry: without a base they are named from 1, with
-- one they are the base's nodes.
pub record BoardShape : Type 0 where
  pub places : ℕ
  pub present : ℕ
  pub base : Option Base

-- the pointers with that of one node of a base
abbrev pub with_target : Row → NodeRecord → Row
with_target row at = slice_set row at.node at.target

-- the pointers before any entry: those of the base's nodes; without a base all are null
abbrev pub row_from : ℕ → Option Base → Row
row_from places None = replicate places None
row_from places (Some base) = fold with_target (replicate places None) base.nodes

abbrev pub row_at_start : BoardShape → Row
row_at_start extent = row_from extent.places extent.base

-- The pointers after a log. `pointers_are_those_of_the_run` proves that a run ends with them.
abbrev pub pointers_after : BoardShape → List Entry → Row
pointers_after extent log = fold row_effect (row_at_start extent) log

-- the present nodes with one node of a base
abbrev pub with_present : List Bool → NodeRecord → List Bool
with_present here at = slice_set here at.node true

-- for each place, whether its node is present before any entry: whether it is one of the base's nodes; without
-- a base, whether it is one of the first `count` names
abbrev pub here_from : ℕ → ℕ → Option Base → List Bool
here_from places count None = map (λ v. nat_le 1 v && nat_le v count) (range_with_len 0 places)
here_from places count (Some base) = fold with_present (replicate places false) base.nodes

abbrev pub here_at_start : BoardShape → List Bool
here_at_start extent = here_from extent.places extent.present extent.base

-- what an accepted edit or fault does to the present nodes
abbrev pub presence_after : List Bool → Event → List Bool
presence_after here (Join v) = slice_set here v true
presence_after here (Leave v) = slice_set here v false
presence_after here event = here

-- the present nodes after an event with this reply: only an accepted join or leave changes them
abbrev pub here_of : List Bool → Event → Reply → List Bool
here_of here event Accepted = presence_after here event
here_of here event reply = here

abbrev pub here_by : List Bool → Entry → List Bool
here_by here entry = here_of here entry.0 entry.1

-- For each place, whether its node is present after a log. `presence_is_that_of_the_run` proves that a run
-- ends with these nodes.
abbrev pub here_after : BoardShape → List Entry → List Bool
here_after extent log = fold here_by (here_at_start extent) log

-- The logs that are runs of a rule table with one name fewer than places, since place 0 is unused. The run
-- begins at the extent's base; without one, at the opening state with the extent's nodes present.
-- `beginnings_are_runs` proves it of their prefixes too.
abbrev pub IsRun : RuleTable → BoardShape → List Entry → Type 0
IsRun t extent log =
    (size : ℕ) × (start : Moment) × (end : Moment) × (extent.places ≡ size + 1) × StartsAt t size extent.present extent.base start × Run t start log end
