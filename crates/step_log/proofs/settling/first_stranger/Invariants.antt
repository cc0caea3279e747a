use Rattle.step_log.proofs.Prelude.{kept_of, AreReceiptMarks}
use Rattle.step_log.proofs.settling.first_stranger.Given as goal

abbrev pub invariant-loop-place : goal.invariant-loop-place
invariant-loop-place g l = AreReceiptMarks l.start (kept_of l.journal) l.clerks l.clerk l.place l.taken
