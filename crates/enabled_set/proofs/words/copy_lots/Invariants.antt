use Rattle.enabled_set.proofs.Prelude.{◌≡◌, ℕ, ◌*◌, ◌<◌, ◌≤◌, length, get_or, is_bit_on}
use Rattle.enabled_set.proofs.words.copy_lots.Given as goal

abbrev pub invariant-loop-lot : goal.invariant-loop-lot
invariant-loop-lot l = record {
  room : length l.words ≡ length l.fn.words;
  near : l.top ≤ 64 * l.lot;
  inside : l.top ≤ length l.other;
  same : (v : ℕ) → v < 4096 * l.lot → is_bit_on l.words v ≡ is_bit_on l.other v;
  off : (i : ℕ) → l.top ≤ i → get_or l.words i 0 ≡ 0;
}
