use Rattle.rule_engine.proofs.NodeMarks.{AreTaken}
use Rattle.rule_engine.proofs.guard.take_ascending.Given as goal

abbrev pub invariant-loop-item : goal.invariant-loop-item
invariant-loop-item g l = AreTaken g.R.Rules.table l.state.state l.items l.item-index l.gathered.whole l.gathered.moves.items
