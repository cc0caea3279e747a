use Rattle.graph_store.proofs.Halves.{halved}
use Rattle.graph_store.proofs.rows.narrow.Goals as goal

pub loop-preserved : goal.loop-preserved
loop-preserved c = record {
  part = c.halve-part.ensures.part;
  short = halved c.loop.counter c.loop.part.size c.halve-part.result.size c.loop-test.true c.loop.invariant.short c.halve-part.ensures.size;
}
