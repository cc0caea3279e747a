use Rattle.daemon.proofs.Prelude.{◌≡◌, ◌≤◌, ◌++◌, drop, length, vec_capacity, plain, named_of}
use Rattle.daemon.proofs.recorded.items_of.Given as goal

abbrev pub invariant-loop-node : goal.invariant-loop-node
invariant-loop-node l =
    (l.items.items ++ plain (named_of (drop l.node-index l.names) l.list) ≡ plain (named_of l.names l.list))
    × (length l.items.items ≤ l.node-index)
    × (length l.names ≤ vec_capacity l.items)
