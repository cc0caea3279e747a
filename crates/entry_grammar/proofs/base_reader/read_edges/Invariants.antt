use Rattle.entry_grammar.proofs.BaseLists.{EdgesSoFar}
use Rattle.entry_grammar.proofs.base_reader.read_edges.Given as goal

abbrev pub invariant-loop-i : goal.invariant-loop-i
invariant-loop-i l = EdgesSoFar l.fn.bytes l.edges.items l.rest l.i l.last
