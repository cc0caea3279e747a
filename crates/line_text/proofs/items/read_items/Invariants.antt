use Rattle.std.proofs.Common.{length}
use Rattle.line_text.proofs.ItemsOnce.{SoFar}
use Rattle.line_text.proofs.items.read_items.Given as goal

abbrev pub invariant-loop-rest : goal.invariant-loop-rest
invariant-loop-rest l = SoFar l.bytes l.items.items l.rest

abbrev pub decreases-loop-rest : goal.decreases-loop-rest
decreases-loop-rest l = length l.rest
