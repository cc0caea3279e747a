-- Why a change of a store is refused: the first reason in a fixed order.
use Rattle.std.specs.Prelude.{◌≡◌, ℕ, not, Option, None, Some, if◌then◌else◌, nat_eq, nat_le, nat_lt}
use Rattle.rule_machine.specs.Network.{Network, present, linked, edge_count}
use Rattle.rule_machine.specs.Refuse.{both_present, max_edges}
use Rattle.graph_store.specs.declared.fault.GraphFault.{GraphFault}
use Rattle.graph_store.specs.declared.fault.GraphFault.TheVariants.{TooManyNodes, UnknownNode, AlreadyPresent, SelfLoop, AlreadyLinked, NotLinked, TooManyEdges, Memory}

-- the most nodes that a network may have
abbrev pub max_nodes : ℕ
max_nodes = 65535

-- why a store of `n` nodes can't be made; None if it can
abbrev pub nodes_fault : ℕ → Option GraphFault
nodes_fault n = if nat_lt max_nodes n then Some TooManyNodes else None

-- why two names can't be the ends of an edge; None if they can
abbrev pub ends_fault : Network → ℕ → ℕ → Option GraphFault
ends_fault net a b =
    if not (both_present net a b) then Some UnknownNode else (if nat_eq a b then Some SelfLoop else None)

-- why a name can't become present; None if it can
abbrev pub join_fault : Network → ℕ → Option GraphFault
join_fault net v =
    if not (nat_le v net.size) then Some UnknownNode else (if present net v then Some AlreadyPresent else None)

-- why a name can't become absent; None if it can
abbrev pub leave_fault : Network → ℕ → Option GraphFault
leave_fault net v = if present net v then None else Some UnknownNode

-- why an edge can't be inserted; None if it can
abbrev pub link_fault : Network → ℕ → ℕ → Option GraphFault
link_fault net a b =
    if not (both_present net a b) then Some UnknownNode
    else (if nat_eq a b then Some SelfLoop
    else (if linked net a b then Some AlreadyLinked
    else (if nat_le max_edges (edge_count net) then Some TooManyEdges else None)))

-- why an edge can't be removed; None if it can
abbrev pub unlink_fault : Network → ℕ → ℕ → Option GraphFault
unlink_fault net a b =
    if not (both_present net a b) then Some UnknownNode
    else (if nat_eq a b then Some SelfLoop
    else (if linked net a b then None else Some NotLinked))

-- the error is the reason to refuse the call; if there is no such reason, the error is a lack of
-- memory
abbrev pub ExplainsGraphFault : Option GraphFault → GraphFault → Type 0
ExplainsGraphFault None f = f ≡ Memory
ExplainsGraphFault (Some fault) f = f ≡ fault
