use Rattle.net_state.proofs.Prelude.{◌<◌, IsTrue, sym, ap, subst, ◌∙◌, present, edge_count, State, after_leave, leave_after_unlink, fewer_edges}
use Rattle.net_state.proofs.disturb.unlink_all.Goals as goal

pub loop-w-preserved : goal.loop-w-preserved
loop-w-preserved g c = record {
  here = subst (λ (s : State). IsTrue (present s.network c.args.v)) (sym c.unlink.ensures.value) c.loop-w.invariant.here;
  left = ap (λ (s : State). after_leave s c.args.v) c.unlink.ensures.value ∙ leave_after_unlink c.loop-w.net.state c.args.v c.in-Some.w c.last_neighbour.ensures.sound ∙ c.loop-w.invariant.left;
  fits = c.unlink.ensures.fits;
}

pub loop-w-smaller : goal.loop-w-smaller
loop-w-smaller g c =
    subst (λ (s : State). edge_count s.network < edge_count c.loop-w.net.state.network) (sym c.unlink.ensures.value) (fewer_edges c.loop-w.net.state.network c.args.v c.in-Some.w c.in-Some.ensures.last)
