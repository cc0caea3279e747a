use Rattle.net_state.proofs.Prelude.{◌≡◌, ℕ, take, has, present}
use Rattle.net_state.proofs.NetworkBuilding.{names_in}
use Rattle.net_state.proofs.lines.join_all.Given as goal

abbrev pub invariant-loop-place : goal.invariant-loop-place
invariant-loop-place l = record {
  here : (x : ℕ) → present l.net.state.network x ≡ has (names_in (take l.place-index l.nodes)) x;
  size : l.net.state.network.size ≡ l.fn.net.state.network.size;
  edges : l.net.state.network.edges ≡ l.fn.net.state.network.edges;
}
