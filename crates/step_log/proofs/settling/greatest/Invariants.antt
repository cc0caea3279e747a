use Rattle.step_log.proofs.Prelude.{◌≡◌, take, greatest_base}
use Rattle.step_log.proofs.settling.greatest.Given as goal

abbrev pub invariant-loop-clerk : goal.invariant-loop-clerk
invariant-loop-clerk l = l.found ≡ greatest_base l.fn.start (take l.clerk-index l.clerks)
