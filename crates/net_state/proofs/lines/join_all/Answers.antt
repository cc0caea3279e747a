use Rattle.net_state.proofs.Prelude.{◌∙◌, ap, arith, take_all, has}
use Rattle.net_state.proofs.NetworkBuilding.{names_in, names_are, not_beyond, absent_next}
use Rattle.net_state.proofs.lines.join_all.Goals as goal

pub returns-then-name-capacity-clause-beyond : goal.returns-then-name-capacity-clause-beyond
returns-then-name-capacity-clause-beyond c = λ fails s same listed.
    let size = c.loop-place.invariant.size in
    not_beyond s c.args.nodes.now c.loop-place.place-index c.place-item.result c.args.net.now.state.network.size c.loop-place-test.true c.place-item.is (omega (arith, c.if-name-capacity.true, c.name.ensures.same, c.capacity.ensures.size, size)) same listed

pub join-requires-clause-absent : goal.join-requires-clause-absent
join-requires-clause-absent c =
    c.loop-place.invariant.here c.place-item.result.node ∙ absent_next c.args.nodes.now c.loop-place.place-index c.place-item.result c.requires.rise c.loop-place-test.true c.place-item.is

pub returns-clause-joined : goal.returns-clause-joined
returns-clause-joined c = λ done.
    let all = take_all c.loop-place.place-index c.args.nodes.now c.loop-place-test.false in
    names_are c.loop-place.net.state.network c.args.nodes.now c.requires.rise (λ x. c.loop-place.invariant.here x ∙ ap (λ l. has (names_in l) x) all)
