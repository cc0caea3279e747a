use Rattle.suitor_index.proofs.Prelude.{take}
use Rattle.suitor_index.proofs.CountedNeighbours.{IsTallyOf}
use Rattle.suitor_index.proofs.state_counts.count_at.Given as goal

abbrev pub invariant-loop-w : goal.invariant-loop-w
invariant-loop-w g l = IsTallyOf g.R.Rules.COURTS_HIGHER_ONLY g.R.Rules.table.opens l.net.state l.v (take l.w-index l.w-items) l.tally
