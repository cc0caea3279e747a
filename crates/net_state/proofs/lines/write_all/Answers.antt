use Rattle.net_state.proofs.Prelude.{◌≡◌, ◌∙◌, ◌+◌, take, None, map, sym, ap, true≢false, names, edge_list, State, point_refusal, node_record_at, present_range}
use Rattle.net_state.proofs.NetworkBuilding.{names_in, written_more, pointer_allowed, allowed_present}
use Rattle.net_state.proofs.lines.write_all.Goals as goal

pub returns-then-not-may_point-clause-stranger : goal.returns-then-not-may_point-clause-stranger
returns-then-not-may_point-clause-stranger c = λ fails s good same joined listed.
    let net = c.loop-place.net.state.network in
    let none : point_refusal net c.place-item.result.node c.place-item.result.target ≡ None = pointer_allowed s net c.args.nodes.now c.loop-place.place-index c.place-item.result good (same ∙ ap names (sym c.loop-place.invariant.network)) (joined ∙ ap edge_list (sym c.loop-place.invariant.network)) listed c.loop-place-test.true c.place-item.is in
    true≢false (sym (c.may_point.ensures.1 none) ∙ c.if-not-may_point.true)

pub loop-place-preserved : goal.loop-place-preserved
loop-place-preserved c =
    let s = c.loop-place.net.state in
    let none = c.may_point.ensures.0 c.if-not-may_point.false in
    let high = (present_range s.network c.place-item.result.node (allowed_present s.network c.place-item.result.node c.place-item.result.target none)).1 in
    let more = written_more s c.args.nodes.now c.loop-place.place-index c.place-item.result c.write.ensures.sound c.requires.rise c.loop-place-test.true c.place-item.is high c.loop-place.invariant.written in
    record {
      written = ap (λ (u : State). map (node_record_at u) (names_in (take (c.loop-place.place-index + 1) c.args.nodes.now))) c.write.ensures.written ∙ more;
      network = ap (λ (u : State). u.network) c.write.ensures.written ∙ c.loop-place.invariant.network;
    }
