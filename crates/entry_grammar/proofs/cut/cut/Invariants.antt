use Rattle.entry_grammar.proofs.Prelude.{take, IsFree}
use Rattle.entry_grammar.proofs.cut.cut.Given as goal

abbrev pub invariant-loop-i : goal.invariant-loop-i
invariant-loop-i l = IsFree l.mark (take l.i l.bytes)
