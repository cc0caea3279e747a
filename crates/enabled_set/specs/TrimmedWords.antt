-- The words of a set of names, and the index after the last word with a bit.
use Rattle.std.specs.Prelude.{◌≡◌, ℕ, ◌-◌, ◌≤◌, List, length, slice_index}

-- There are 1,024 words. From an index on they are 0, and the word before that index is not.
pub record AreTrimmed (words : List ℕ) (used : ℕ) : Type 0 where
  pub room : length words ≡ 1024
  pub within : used ≤ 1024
  pub off : (i : ℕ) → used ≤ i → slice_index words i ≡ 0
  pub last : 1 ≤ used → 1 ≤ slice_index words (used - 1)
