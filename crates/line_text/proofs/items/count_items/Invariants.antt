use Rattle.std.proofs.Common.{length}
use Rattle.line_text.proofs.ItemsOnce.{Counted}
use Rattle.line_text.proofs.items.count_items.Given as goal

abbrev pub invariant-loop-rest : goal.invariant-loop-rest
invariant-loop-rest l = Counted l.bytes l.count l.rest

abbrev pub decreases-loop-rest : goal.decreases-loop-rest
decreases-loop-rest l = length l.rest
