use Rattle.enabled_set.proofs.Prelude.{◌≡◌, ◌≤◌, ℕ, true, length, is_in}
use Rattle.enabled_set.proofs.marks.Marks.mark_all.Given as goal

abbrev pub invariant-loop-below : goal.invariant-loop-below
invariant-loop-below l = record {
  places : length l.self ≡ length l.initial.self;
  marked : (v : ℕ) → 1 ≤ v → v ≤ l.below → is_in l.self v ≡ true;
}
