use Rattle.entry_grammar.proofs.BaseLists.{one_more, was_pushed}
use Rattle.entry_grammar.proofs.base_reader.read_nodes.Goals as goal

pub loop-i-preserved : goal.loop-i-preserved
loop-i-preserved c =
    let found = c.in-Some.ensures in
    let more = one_more c.loop-i.invariant c.in-Some.place c.in-Some.behind.now found.0 found.1 in
    let pushed = was_pushed c.push.new.self.items c.loop-i.places.items c.in-Some.place _ c.push.ensures.items c.if-is_err.ensures.negation in
    rw pushed (rw c.name-last.ensures.same more)
