use Rattle.entry_grammar.proofs.Free.{free_more, cut_here}
use Rattle.entry_grammar.proofs.cut.cut.Goals as goal

pub loop-i-preserved : goal.loop-i-preserved
loop-i-preserved c = free_more c.args.mark c.args.bytes.now c.loop-i.i c.loop-i-test.true c.loop-i.invariant c.if-byte-mark.false

pub returns-then-byte-mark : goal.returns-then-byte-mark
returns-then-byte-mark c =
    cut_here c.args.mark c.args.bytes.now c.loop-i.i c.loop-i-test.true c.loop-i.invariant c.if-byte-mark.true
