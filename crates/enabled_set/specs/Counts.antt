-- How many members each block of places has.
use Rattle.std.specs.Prelude.{◌≡◌, ℕ, zero, suc, ◌+◌, ◌*◌, ◌≤◌, Bool, false, List, length, slice_index}
use Rattle.std.specs.List.{filter, range_with_len}
use Rattle.enabled_set.specs.Members.{is_in, is_bit_on}

-- the numbers below the second argument that pass the test, ascending
unfoldable pub below : (ℕ → Bool) → ℕ → List ℕ
below p n = filter p (range_with_len 0 n)

-- how many numbers below the second argument pass the test
unfoldable pub tally : (ℕ → Bool) → ℕ → ℕ
tally p n = length (below p n)

-- the sum of the counts before an index; counts past the end are 0
unfoldable pub before : List ℕ → ℕ → ℕ
before counts zero = 0
before counts (suc i) = before counts i + slice_index counts i

-- The i-th count is the number of members in the i-th block of `width` places, and the blocks cover all
-- places.
pub record AreBlockCounts (bits : List Bool) (width : ℕ) (counts : List ℕ) : Type 0 where
  pub covers : length bits ≤ width * length counts
  pub counted : (i : ℕ) → before counts i ≡ tally (is_in bits) (width * i)

-- The words have these bits and at most 512 bits more, 0 is not a member, and the counts and the total
-- are right. From any index on there are eight words and eight counts of 512; there are sixteen counts of
-- 4,096.
pub record HasRightCounts (bits : List Bool) (words by_512 by_4096 : List ℕ) (total : ℕ) : Type 0 where
  pub few : length bits ≤ 65536
  pub covered : length bits + 448 ≤ 64 * length words
  pub spare : 64 * length words ≤ length bits + 512
  pub nobody : is_in bits 0 ≡ false
  pub same : (v : ℕ) → is_in bits v ≡ is_bit_on words v
  pub in_512 : AreBlockCounts bits 512 by_512
  pub in_4096 : AreBlockCounts bits 4096 by_4096
  pub groups : length bits + 3584 ≤ 512 * length by_512
  pub lots : length by_4096 ≡ 16
  pub in_all : tally (is_in bits) (length bits) ≡ total
