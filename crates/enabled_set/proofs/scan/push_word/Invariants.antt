use Rattle.enabled_set.proofs.Prelude.{ℕ, has_bit, tally}
use Rattle.enabled_set.proofs.Nth.{IsListed}
use Rattle.enabled_set.proofs.scan.push_word.Given as goal

abbrev pub invariant-loop-at : goal.invariant-loop-at
invariant-loop-at l = (n : ℕ) × IsListed l.words l.place l.rest l.list.items n

abbrev pub decreases-loop-at : goal.decreases-loop-at
decreases-loop-at l = tally (has_bit l.rest) 64
