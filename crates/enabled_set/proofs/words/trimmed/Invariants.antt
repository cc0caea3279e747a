use Rattle.enabled_set.proofs.Prelude.{◌≡◌, ℕ, ◌+◌, ◌<◌, ◌≤◌, get_or}
use Rattle.enabled_set.proofs.words.trimmed.Given as goal

abbrev pub invariant-loop-passed : goal.invariant-loop-passed
invariant-loop-passed l = (i : ℕ) → l.used ≤ i + l.passed → i < l.used → get_or l.words i 0 ≡ 0
