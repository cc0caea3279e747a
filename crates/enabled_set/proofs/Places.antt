-- Places as bits of words.
use Rattle.enabled_set.proofs.Prelude.{◌≡◌, ℕ, ◌+◌, ◌*◌, ◌/◌, ◌%◌, ◌<◌, Bool, false, List, length, get_or, set, replicate, sym, ap, ◌∙◌, arith, ◌≢◌, get_or-set_same, get_or-set_other, ext_get_or, length-map-range_with_len, get_or-map-range_with_len, bit_at-zero, is_in, has_bit, tally}
use Rattle.enabled_set.specs.Members.{is_bit_on, first_bits}
use Rattle.enabled_set.proofs.Bits.{has_none}
use Rattle.enabled_set.proofs.PassCounts.{tally_shift}
use Rattle.enabled_set.proofs.Sums.{everywhere}

pub length-places_of : (len : ℕ) (words : List ℕ) → length (first_bits len words) ≡ len
unfolding first_bits
length-places_of len words = length-map-range_with_len (is_bit_on words) 0 len

-- a place among the first ones is as the words say
pub in_places : (len : ℕ) (words : List ℕ) (v : ℕ) → v < len → is_in (first_bits len words) v ≡ is_bit_on words v
unfolding first_bits
in_places len words v there = get_or-map-range_with_len (is_bit_on words) 0 len v v false there (omega arith)

-- the places of words are these, if they agree
pub places_are : (len : ℕ) (words : List ℕ) (bits : List Bool) → length bits ≡ len → ((v : ℕ) → v < len → is_in bits v ≡ is_bit_on words v) → first_bits len words ≡ bits
places_are len words bits long same =
    let len_is = length-places_of len words in
    ext_get_or false (first_bits len words) bits (omega arith) (λ v there. in_places len words v (omega arith) ∙ sym (same v (omega arith)))

-- a place is a bit of its word
pub on_word : (words : List ℕ) (g i : ℕ) → i < 64 → is_bit_on words (64 * g + i) ≡ has_bit (get_or words g 0) i
unfolding is_bit_on
on_word words g i inside = grind arith

-- one word more
pub words_step : (words : List ℕ) (place : ℕ) → tally (is_bit_on words) (64 * (place + 1)) ≡ tally (is_bit_on words) (64 * place) + tally (has_bit (get_or words place 0)) 64
words_step words place =
    ap (tally (is_bit_on words)) (let e : 64 * (place + 1) ≡ 64 * place + 64 = omega arith in e)
    ∙ tally_shift (is_bit_on words) (has_bit (get_or words place 0)) (64 * place) 64 (λ i less. on_word words place i less)

-- a word that is written
pub put_here : (words : List ℕ) (v word : ℕ) (b : Bool) → v / 64 < length words → has_bit word (v % 64) ≡ b → is_bit_on (set words (v / 64) word) v ≡ b
unfolding is_bit_on
put_here words v word b room here = ap (λ w. has_bit w (v % 64)) (get_or-set_same words (v / 64) word 0 room) ∙ here

pub put_there : (words : List ℕ) (v word : ℕ) (u : ℕ) → v / 64 < length words → ((i : ℕ) → i < 64 → i ≢ (v % 64) → has_bit word i ≡ has_bit (get_or words (v / 64) 0) i) → (u ≡ v → ⊥) → is_bit_on (set words (v / 64) word) u ≡ is_bit_on words u
unfolding is_bit_on
put_there words v word u room others apart = grind (arith, get_or-set_same, get_or-set_other)

-- words of no bits
pub on_none : (m v : ℕ) → is_bit_on (replicate m 0) v ≡ false
unfolding is_bit_on
on_none m v = ap (λ w. has_bit w (v % 64)) (everywhere m (v / 64) 0) ∙ has_none 0 (v % 64) (bit_at-zero (v % 64))
