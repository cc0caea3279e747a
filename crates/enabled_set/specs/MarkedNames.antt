-- Marked names, each listed once.
use Rattle.std.specs.Prelude.{◌≡◌, ◌≢◌, ℕ, ◌<◌, ◌≤◌, Bool, true, List, length, slice_index, IsTrue}
use Rattle.enabled_set.specs.Members.{is_in}
use Rattle.enabled_set.specs.Counts.{tally}

-- the first `count` entries of the list are the marked names, each once
pub record AreListed (bits : List Bool) (names : List ℕ) (count : ℕ) : Type 0 where
  pub few : length bits ≤ 65536
  pub some : 1 ≤ length bits
  pub room : length names ≡ length bits
  pub counted : tally (is_in bits) (length bits) ≡ count
  pub marked : (i : ℕ) → i < count → is_in bits (slice_index names i) ≡ true
  pub once : (i j : ℕ) → i < j → j < count → slice_index names i ≢ slice_index names j

-- if the flag is set, each name is marked
abbrev pub AreAllMarkedIf : Bool → List Bool → Type 0
AreAllMarkedIf all bits = IsTrue all → (v : ℕ) → 1 ≤ v → v < length bits → is_in bits v ≡ true
