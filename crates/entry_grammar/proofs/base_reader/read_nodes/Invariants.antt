use Rattle.entry_grammar.proofs.BaseLists.{NodesSoFar}
use Rattle.entry_grammar.proofs.base_reader.read_nodes.Given as goal

abbrev pub invariant-loop-i : goal.invariant-loop-i
invariant-loop-i l = NodesSoFar l.fn.bytes l.places.items l.rest l.i l.last
