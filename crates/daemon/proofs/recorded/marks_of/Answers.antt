use Rattle.daemon.proofs.Prelude.{◌<◌, true, set, ap, arith, length-set}
use Rattle.daemon.proofs.Marks.{marking_new, marked_all, marking_more}
use Rattle.daemon.proofs.recorded.marks_of.Goals as goal

pub loop-node-init : goal.loop-node-init
loop-node-init c = marking_new c.in_ok-marks.marks.items c.args.list.now (c.in_ok-marks.ensures.items_if_clones_equal (λ y e. e))

pub loop-node-preserved : goal.loop-node-preserved
loop-node-preserved c =
    let fits : c.node-item.result < 65536 = omega (arith, c.place.ensures.same, c.place.ensures.named.1) in
    marking_more c.loop-node.marks.items (set c.loop-node.marks.items c.place.result true) c.args.list.now c.loop-node.node-index c.node-item.result c.loop-node.invariant c.loop-node-test.true c.node-item.is fits (length-set c.loop-node.marks.items c.place.result true) (ap (λ k. set c.loop-node.marks.items k true) c.place.ensures.same)

pub returns : goal.returns
returns c = marked_all c.loop-node.marks.items c.args.list.now c.loop-node.node-index c.loop-node.invariant (omega (arith, c.loop-node-test.false))
