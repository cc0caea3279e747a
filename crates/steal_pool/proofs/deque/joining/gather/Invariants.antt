use Rattle.steal_pool.proofs.Joinings.{Joining}
use Rattle.steal_pool.proofs.deque.joining.gather.Given as goal

abbrev pub invariant-loop-end : goal.invariant-loop-end
invariant-loop-end l = Joining l.count l.fn.ends.items l.owner l.ends.items

abbrev pub decreases-loop-end : goal.decreases-loop-end
decreases-loop-end l = goal.left-loop-end l
