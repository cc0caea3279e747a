use Rattle.step_log.proofs.Prelude.{kept_of, AreReceiptMarks}
use Rattle.step_log.proofs.settling.settled_with.Given as goal

abbrev pub invariant-loop-clerk : goal.invariant-loop-clerk
invariant-loop-clerk g l = AreReceiptMarks l.start (kept_of l.journal) l.clerks l.clerk 0 l.taken
