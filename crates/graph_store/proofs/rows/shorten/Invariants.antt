use Rattle.graph_store.specs.Rows.{IsPartFor}
use Rattle.graph_store.proofs.rows.shorten.Given as goal

abbrev pub invariant-loop-part : goal.invariant-loop-part
invariant-loop-part l = IsPartFor l.row l.name l.part.start l.part.size

abbrev pub decreases-loop-part : goal.decreases-loop-part
decreases-loop-part l = l.part.size
