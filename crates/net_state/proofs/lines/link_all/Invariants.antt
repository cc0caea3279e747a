use Rattle.net_state.proofs.Prelude.{◌≡◌, take, edge_list}
use Rattle.net_state.proofs.lines.link_all.Given as goal

abbrev pub invariant-loop-edge : goal.invariant-loop-edge
invariant-loop-edge l = record {
  linked : edge_list l.net.state.network ≡ take l.edge-index l.edges;
  size : l.net.state.network.size ≡ l.fn.net.state.network.size;
  here : l.net.state.network.here ≡ l.fn.net.state.network.here;
}
