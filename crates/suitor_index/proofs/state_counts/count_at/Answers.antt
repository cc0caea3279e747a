use Rattle.suitor_index.proofs.Prelude.{◌≤◌, subst}
use Rattle.suitor_index.proofs.CountedNeighbours.{room_for_next, tally_more}
use Rattle.suitor_index.proofs.state_counts.count_at.Goals as goal

pub count_neighbour-requires-clause-room : goal.count_neighbour-requires-clause-room
count_neighbour-requires-clause-room g c = (room_for_next g.R.Rules.COURTS_HIGHER_ONLY g.R.Rules.table.opens c.args.net.now.state c.args.v c.neighbours-w-items.result.now c.loop-w.w-index c.w-item.result c.loop-w.tally (subst (λ n. n ≤ 65535) c.capacity.ensures.size c.capacity.ensures.few) c.neighbours-w-items.ensures.all c.loop-w-test.true c.w-item.is c.loop-w.invariant).0

pub count_neighbour-requires-clause-few : goal.count_neighbour-requires-clause-few
count_neighbour-requires-clause-few g c = (room_for_next g.R.Rules.COURTS_HIGHER_ONLY g.R.Rules.table.opens c.args.net.now.state c.args.v c.neighbours-w-items.result.now c.loop-w.w-index c.w-item.result c.loop-w.tally (subst (λ n. n ≤ 65535) c.capacity.ensures.size c.capacity.ensures.few) c.neighbours-w-items.ensures.all c.loop-w-test.true c.w-item.is c.loop-w.invariant).1

pub loop-w-preserved : goal.loop-w-preserved
loop-w-preserved g c = tally_more g.R.Rules.COURTS_HIGHER_ONLY g.R.Rules.table.opens c.args.net.now.state c.args.v c.neighbours-w-items.result.now c.loop-w.w-index c.w-item.result c.loop-w.tally c.count_neighbour.new.tally c.loop-w-test.true c.w-item.is c.loop-w.invariant c.count_neighbour.ensures.suitors c.count_neighbour.ensures.sum c.count_neighbour.ensures.reached c.count_neighbour.ensures.pointer
