-- A state that shows what a node holds, if any does: the node, its neighbours and their targets, with an edge
-- between the node and each neighbour, and between each neighbour and its target.
use Rattle.std.specs.Prelude.{ℕ, ◌+◌, Bool, false, List, [], ◌∷◌, map, max, Option, None, Some, if◌then◌else◌, nat_eq}
use Rattle.std.specs.List.{range_with_len}
use Rattle.std.specs.Option.{option_and_then}
use Rattle.rule_machine.specs.declared.base.NodeRecord.{NodeRecord}
use Rattle.rule_machine.specs.Network.{Network, edgeless, with_edge}
use Rattle.rule_machine.specs.State.{State, Registers}
use Rattle.local_rule.specs.Views.{record_of}

-- the greatest name in these records
abbrev pub name_in : Option ℕ → ℕ
name_in None = 0
name_in (Some w) = w

abbrev pub greatest_in : List NodeRecord → ℕ
greatest_in [] = 0
greatest_in (r ∷ rows) = max (max r.node (name_in r.target)) (greatest_in rows)

-- the network with an edge to a target, if there is one
abbrev pub with_target_edge : Network → ℕ → Option ℕ → Network
with_target_edge net v None = net
with_target_edge net v (Some w) = with_edge net v w

abbrev pub star_network : ℕ → ℕ → List NodeRecord → Network
star_network size me [] = edgeless size
star_network size me (r ∷ rows) = with_target_edge (with_edge (star_network size me rows) me r.node) r.node r.target

-- the record of a name among all
abbrev pub record_in : NodeRecord → List NodeRecord → ℕ → Option NodeRecord
record_in own around v = if nat_eq own.node v then Some own else record_of around v

abbrev pub target_found : Option NodeRecord → Option ℕ
target_found o = option_and_then (λ r. r.target) o

abbrev pub flag_in : Option NodeRecord → Bool
flag_in None = false
flag_in (Some r) = r.flagged

abbrev pub star_registers : ℕ → NodeRecord → List NodeRecord → Registers
star_registers size own around = record {
  pointers = map (λ v. target_found (record_in own around v)) (range_with_len 0 (size + 1));
  flags = map (λ v. flag_in (record_in own around v)) (range_with_len 0 (size + 1));
}

abbrev pub star_of : ℕ → NodeRecord → List NodeRecord → State
star_of size own around = record { network = star_network size own.node around; registers = star_registers size own around }

abbrev pub star : NodeRecord → List NodeRecord → State
star own around = star_of (max own.node (greatest_in around)) own around
