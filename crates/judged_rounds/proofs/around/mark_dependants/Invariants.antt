use Rattle.judged_rounds.proofs.Prelude.{◌&&◌, take, has, witness_at, depends_on, MarksAll}
use Rattle.judged_rounds.proofs.around.mark_dependants.Given as goal

abbrev pub invariant-loop-w : goal.invariant-loop-w
invariant-loop-w l = MarksAll l.size (λ u. has (take l.w-index l.w-items) u && depends_on (witness_at l.witnesses u) l.v) l.fn.due l.due
