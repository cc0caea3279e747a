use Rattle.net_state.proofs.Prelude.{◌↔◌, drop, EdgesAscend}
use Rattle.net_state.proofs.lines.edges_ascend.Given as goal

abbrev pub invariant-loop-edge : goal.invariant-loop-edge
invariant-loop-edge l = EdgesAscend (0, 0) l.edges ↔ EdgesAscend (l.low, l.high) (drop l.edge-index l.edges)
