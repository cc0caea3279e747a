use Rattle.enabled_set.proofs.Prelude.{◌≡◌, ℕ, ◌<◌, ◌≤◌, ◌⊎◌, length, get_or, max}
use Rattle.enabled_set.proofs.words.copy.Given as goal

abbrev pub invariant-loop-at : goal.invariant-loop-at
invariant-loop-at l = record {
  near : l.at ≤ max l.from l.to;
  room : length l.words ≡ length l.fn.words;
  copied : (i : ℕ) → l.from ≤ i → i < l.at → get_or l.words i 0 ≡ get_or l.other i 0;
  others : (i : ℕ) → (i < l.from) ⊎ (l.at ≤ i) → get_or l.words i 0 ≡ get_or l.fn.words i 0;
}
