-- What is wrong with what a node holds, if no state shows it: the first fault, the neighbours' before the
-- node's own.
use Rattle.std.specs.Prelude.{ℕ, List, [], ◌∷◌, Option, None, Some, is_some, if◌then◌else◌, nat_le, nat_eq}
use Rattle.std.specs.Option.{option_or}
use Rattle.rule_machine.specs.declared.base.NodeRecord.{NodeRecord}
use Rattle.rule_machine.specs.State.{is_at}
use Rattle.local_rule.specs.Views.{record_of}
use Rattle.local_rule.specs.declared.fault.ViewFault.{ViewFault}
use Rattle.local_rule.specs.declared.fault.ViewFault.TheVariants.{NotAscending, OwnNeighbour, PointsAtItself, PointsAtStranger}

-- A neighbour's name is above the one listed before it (0 before the first), it is not the node's own, and
-- the neighbour does not point at itself.
abbrev pub row_fault : ℕ → ℕ → NodeRecord → Option ViewFault
row_fault me before r =
    if nat_le r.node before then Some (NotAscending r.node)
    else if nat_eq r.node me then Some OwnNeighbour
    else if is_at r.target r.node then Some (PointsAtItself r.node)
    else None

abbrev pub rows_fault : ℕ → ℕ → List NodeRecord → Option ViewFault
rows_fault me before [] = None
rows_fault me before (r ∷ rows) = option_or (row_fault me before r) (rows_fault me r.node rows)

-- the node's pointer is null or at one of its neighbours
abbrev pub own_fault : List NodeRecord → Option ℕ → Option ViewFault
own_fault around None = None
own_fault around (Some w) = if is_some (record_of around w) then None else Some (PointsAtStranger w)

abbrev pub first_fault : NodeRecord → List NodeRecord → Option ViewFault
first_fault own around = option_or (rows_fault own.node 0 around) (own_fault around own.target)
