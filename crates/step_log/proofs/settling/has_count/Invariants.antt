use Rattle.step_log.proofs.Prelude.{◌≡◌, ◌+◌, take, receipt_count}
use Rattle.step_log.proofs.settling.has_count.Given as goal

abbrev pub invariant-loop-clerk : goal.invariant-loop-clerk
invariant-loop-clerk l = receipt_count (take l.clerk-index l.clerks) + l.left ≡ l.count
