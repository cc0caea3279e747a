use Rattle.judged_rounds.proofs.Prelude.{take, has, MarksAll}
use Rattle.judged_rounds.proofs.around.mark_row.Given as goal

abbrev pub invariant-loop-w : goal.invariant-loop-w
invariant-loop-w l = MarksAll l.size (has (take l.w-index l.row)) l.fn.due l.due
