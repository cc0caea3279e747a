use Rattle.graph_store.proofs.Contents.{lower_by_one}
use Rattle.graph_store.proofs.rows.drop_first.Goals as goal
use Rattle.std.proofs.Common.{arith}

pub returns : goal.returns
returns c = lower_by_one c.args.tail.now c.loop-at.tail (omega arith) (λ k lt. c.loop-at.invariant.moved k (omega (arith, lt)))
