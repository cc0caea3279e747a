use Rattle.net_state.proofs.Prelude.{◌≡◌, map, take, node_record_at}
use Rattle.net_state.proofs.NetworkBuilding.{names_in}
use Rattle.net_state.proofs.lines.write_all.Given as goal

abbrev pub invariant-loop-place : goal.invariant-loop-place
invariant-loop-place l = record {
  written : map (node_record_at l.net.state) (names_in (take l.place-index l.nodes)) ≡ take l.place-index l.nodes;
  network : l.net.state.network ≡ l.fn.net.state.network;
}
