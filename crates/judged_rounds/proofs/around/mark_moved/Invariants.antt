use Rattle.judged_rounds.proofs.Prelude.{take, list_any, is_touched, MarksAll}
use Rattle.judged_rounds.proofs.around.mark_moved.Given as goal

abbrev pub invariant-loop-moved : goal.invariant-loop-moved
invariant-loop-moved l = MarksAll l.size (λ u. list_any (λ m. is_touched l.net.state l.witnesses m.node u) (take l.moved-index l.moves)) l.fn.due l.due
