use Rattle.suitor_index.proofs.CountedNeighbours.{AreCounted}
use Rattle.suitor_index.proofs.suitors.Suitors.of.Given as goal

abbrev pub invariant-loop-below : goal.invariant-loop-below
invariant-loop-below g l = AreCounted g.R.Rules.COURTS_HIGHER_ONLY g.R.Rules.table.opens l.net.state l.below l.suitors.tallies.items
