-- A set of names: as a list of booleans, one for each name, and as the bits of words. Index 0 belongs to no
-- node.
use Rattle.std.specs.Prelude.{ℕ, Bool, false, List, length, slice_index_or, ◌≡◌, ◌/◌, ◌%◌, ◌≤◌, true, map, nat_eq, slice_index}
use Rattle.std.specs.List.{filter, range_with_len}
use Rattle.std.specs.Int.{bit_at}

-- whether a name is a member; names past the end are not
abbrev pub is_in : List Bool → ℕ → Bool
is_in bits v = slice_index_or bits v false

-- the members, ascending
abbrev pub members : List Bool → List ℕ
members bits = filter (is_in bits) (range_with_len 0 (length bits))

-- whether the bit with this index, from 0, is set in a word
unfoldable pub has_bit : ℕ → ℕ → Bool
has_bit word i = nat_eq (bit_at word i) 1

-- whether the bit with this index is set in the words; bits past the end are not
unfoldable pub is_bit_on : List ℕ → ℕ → Bool
is_bit_on words v = has_bit (slice_index words (v / 64)) (v % 64)

-- the first `len` bits of words
unfoldable pub first_bits : ℕ → List ℕ → List Bool
first_bits len words = map (is_bit_on words) (range_with_len 0 len)

-- each bit that is set is that of a name, 1 to 65,535
abbrev pub HasOnlyNames : List ℕ → Type 0
HasOnlyNames words = (v : ℕ) → is_bit_on words v ≡ true → (1 ≤ v) × (v ≤ 65535)
