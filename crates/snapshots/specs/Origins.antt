-- The origin of a board's entries, which is the first mark of the board's history.
use Rattle.std.specs.Prelude.{ℕ, List, [], ◌∷◌, length, Option, None, Some}
use Rattle.rule_machine.specs.declared.base.Base.{Base}
use Rattle.snapshots.specs.declared.marks.Mark.{Mark}
use Rattle.snapshots.specs.declared.marks.Mark.TheVariants.{Beginning, Posting, Publication}
use Rattle.snapshots.specs.declared.marks.Origin.{Origin}
use Rattle.snapshots.specs.declared.marks.Origin.TheVariants.{FirstNames, FromBase}

-- where a history begins; none before its first mark
abbrev pub origin_of : List Mark → Option Origin
origin_of [] = None
origin_of (Beginning origin ∷ marks) = Some origin
origin_of (Posting entry ∷ marks) = None
origin_of (Publication ∷ marks) = None

-- how many nodes there are at an origin
abbrev pub origin_nodes : Option Origin → ℕ
origin_nodes None = 0
origin_nodes (Some (FirstNames count)) = count
origin_nodes (Some (FromBase base)) = length base.nodes

-- the base of an origin, if any
abbrev pub origin_base : Option Origin → Option Base
origin_base None = None
origin_base (Some (FirstNames count)) = None
origin_base (Some (FromBase base)) = Some base

-- how many nodes there are before any entry
abbrev pub nodes_before : List Mark → ℕ
nodes_before marks = origin_nodes (origin_of marks)

-- the base before any entry, if any
abbrev pub base_before : List Mark → Option Base
base_before marks = origin_base (origin_of marks)
