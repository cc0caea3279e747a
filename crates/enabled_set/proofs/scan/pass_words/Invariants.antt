use Rattle.enabled_set.proofs.Prelude.{◌+◌, ◌*◌, ◌≤◌, is_bit_on, tally}
use Rattle.enabled_set.proofs.PassCounts.{IsPassed}
use Rattle.enabled_set.proofs.scan.pass_words.Given as goal

abbrev pub invariant-loop-at : goal.invariant-loop-at
invariant-loop-at l = record {
  scan : IsPassed (λ n. tally (is_bit_on l.words) (64 * n)) l.from l.at l.spot.place l.spot.left l.sum l.to_pass;
  few : l.sum + 65535 * l.from ≤ 65535 * l.at;
}
