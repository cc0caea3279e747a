use Rattle.net_state.proofs.Prelude.{◌≡◌, IsTrue, present, edge_count, after_leave}
use Rattle.net_state.proofs.disturb.unlink_all.Given as goal

-- the node is present, and its leave would have the same result as before
abbrev pub invariant-loop-w : goal.invariant-loop-w
invariant-loop-w g l = record {
  here : IsTrue (present l.net.state.network l.v);
  left : after_leave l.net.state l.v ≡ after_leave l.initial.net.state l.v;
  fits : g.O.Observer.fits l.net l.observer;
}

abbrev pub decreases-loop-w : goal.decreases-loop-w
decreases-loop-w g l = edge_count l.net.state.network
