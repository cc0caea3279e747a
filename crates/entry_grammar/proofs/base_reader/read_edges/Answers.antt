use Rattle.entry_grammar.proofs.BaseLists.{one_more, was_pushed}
use Rattle.entry_grammar.proofs.base_reader.read_edges.Goals as goal

pub loop-i-preserved : goal.loop-i-preserved
loop-i-preserved c =
    let found = c.in-Some.ensures in
    let more = one_more c.loop-i.invariant c.in-Some.found.0 c.in-Some.found.1.now found.0 found.1 in
    let pushed = was_pushed c.push.new.self.items c.loop-i.edges.items c.in-Some.found.0 _ c.push.ensures.items c.if-is_err.ensures.negation in
    rw pushed (rw c.ends-last.ensures more)
