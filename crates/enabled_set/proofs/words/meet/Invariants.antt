use Rattle.enabled_set.proofs.Prelude.{◌≡◌, ℕ, ◌<◌, ◌≤◌, length, get_or, bit_and}
use Rattle.enabled_set.proofs.words.meet.Given as goal

abbrev pub invariant-loop-at : goal.invariant-loop-at
invariant-loop-at l = record {
  room : length l.words ≡ length l.fn.words;
  met : (i : ℕ) → i < l.at → get_or l.words i 0 ≡ bit_and (get_or l.fn.words i 0) (get_or l.other i 0);
  others : (i : ℕ) → l.at ≤ i → get_or l.words i 0 ≡ get_or l.fn.words i 0;
}
