use Rattle.daemon.proofs.Marks.{IsMarking}
use Rattle.daemon.proofs.recorded.marks_of.Given as goal

abbrev pub invariant-loop-node : goal.invariant-loop-node
invariant-loop-node l = IsMarking l.marks.items l.list l.node-index
