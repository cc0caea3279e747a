use Rattle.enabled_set.proofs.Prelude.{◌+◌, ◌*◌, ◌≤◌, before}
use Rattle.enabled_set.proofs.PassCounts.{IsPassed}
use Rattle.enabled_set.proofs.scan.pass_in_8.Given as goal

abbrev pub invariant-loop-at : goal.invariant-loop-at
invariant-loop-at l = record {
  scan : IsPassed (before l.counts) l.from l.at l.spot.place l.spot.left l.sum l.to_pass;
  few : l.sum + 65535 * l.from ≤ 65535 * l.at;
}
