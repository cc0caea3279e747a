use Rattle.enabled_set.proofs.Prelude.{◌≡◌, ◌+◌, before}
use Rattle.enabled_set.proofs.scan.pass_in_16.Given as goal

abbrev pub invariant-loop-place : goal.invariant-loop-place
invariant-loop-place l = before l.counts l.place + l.left ≡ l.to_pass
