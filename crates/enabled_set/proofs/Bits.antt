-- The bits of a word.
use Rattle.enabled_set.proofs.Prelude.{◌≡◌, ℕ, zero, suc, ◌+◌, ◌-◌, ◌*◌, ◌/◌, ◌%◌, ◌^◌, ◌<◌, ◌≤◌, true, false, sym, ap, ◌∙◌, arith, ◌≢◌, bit_and, bit_or, count_ones, nat_eq, bit_at, w64, trailing_zeros, mod-lt, shr-shr, mod-pow-add, ones_cat, one_shl, and_mask, pow_pos, ones_le_self, zero_from_ones, bit_at-zero, bit_at_set_same, bit_at_set_other, bit_at_clear_same, bit_at_clear_other, bit_at-trailing_zeros, bit_at-lt, tally}
use Rattle.enabled_set.specs.Members.{has_bit}
use Rattle.enabled_set.proofs.PassCounts.{tally_add, tally_more, tally_none, tally_shift}

pub has_one : (word i : ℕ) → bit_at word i ≡ 1 → has_bit word i ≡ true
unfolding has_bit
has_one word i h = ap (λ n. nat_eq n 1) h

pub has_none : (word i : ℕ) → bit_at word i ≡ 0 → has_bit word i ≡ false
unfolding has_bit
has_none word i h = ap (λ n. nat_eq n 1) h

pub with_here : (word at : ℕ) → at < 64 → has_bit (bit_or word (1 * 2 ^ at % 18446744073709551616)) at ≡ true
unfolding has_bit
with_here word at within = ap (λ n. nat_eq n 1) (bit_at_set_same w64 word at within)

pub with_others : (word at i : ℕ) → at < 64 → i ≢ at → has_bit (bit_or word (1 * 2 ^ at % 18446744073709551616)) i ≡ has_bit word i
unfolding has_bit
with_others word at i within apart = ap (λ n. nat_eq n 1) (bit_at_set_other w64 word at within i apart)

pub without_here : (word at : ℕ) → at < 64 → has_bit (bit_and word (18446744073709551615 - 1 * 2 ^ at % 18446744073709551616)) at ≡ false
unfolding has_bit
without_here word at within = ap (λ n. nat_eq n 1) (bit_at_clear_same w64 word at within)

pub without_others : (word at i : ℕ) → at < 64 → i < 64 → i ≢ at → has_bit (bit_and word (18446744073709551615 - 1 * 2 ^ at % 18446744073709551616)) i ≡ has_bit word i
unfolding has_bit
without_others word at i within inside apart = ap (λ n. nat_eq n 1) (bit_at_clear_other w64 word at within i inside apart)

-- the bits from a place on
shifted : (word from i : ℕ) → bit_at (word / 2 ^ from) i ≡ bit_at word (from + i)
shifted word from i = ap (λ n. n % 2) (shr-shr word from i)

shifted_bit : (word from i : ℕ) → has_bit (word / 2 ^ from) i ≡ has_bit word (from + i)
unfolding has_bit
shifted_bit word from i = ap (λ n. nat_eq n 1) (shifted word from i)

-- a word of none
pub first_none : (word i : ℕ) → word ≡ 0 → has_bit word i ≡ false
first_none word i none = has_none word i (ap (λ n. bit_at n i) none ∙ bit_at-zero i)

-- the lowest bit
pub first_some : (word : ℕ) → word < 18446744073709551616 → 0 < word → (trailing_zeros w64 word < 64) × (has_bit word (trailing_zeros w64 word) ≡ true) × ((i : ℕ) → i < trailing_zeros w64 word → has_bit word i ≡ false)
first_some word fits some =
    let zeros = bit_at-trailing_zeros w64 word some fits in
    (zeros.0, has_one word (trailing_zeros w64 word) zeros.1, λ i low. has_none word i (zeros.2 i low))

ones_of_0 : count_ones 0 ≡ 0
ones_of_0 = omega (arith, ones_le_self 0)

ones_of_1 : count_ones 1 ≡ 1
ones_of_1 = grind (arith, ones_le_self, zero_from_ones)

-- the ones below a place are as many as the tally says
ones_low : (word n : ℕ) → count_ones (word % 2 ^ n) ≡ tally (has_bit word) n
ones_low word zero = let e : word % 1 ≡ 0 = omega arith in ap count_ones e ∙ ones_of_0 ∙ sym (tally_none (has_bit word))
ones_low word (suc n) =
    let ih = ones_low word n in
    let split = mod-pow-add word 1 n in
    let e : suc n ≡ 1 + n = omega arith in
    let cat = ones_cat n (bit_at word n) (word % 2 ^ n) (mod-lt word {m = 2 ^ n} (pow_pos n)) in
    let whole : count_ones (word % 2 ^ suc n) ≡ count_ones (bit_at word n) + count_ones (word % 2 ^ n) = ap (λ m. count_ones (word % 2 ^ m)) e ∙ ap count_ones split ∙ cat in
    let two = bit_at-lt word n in
    let more = tally_more (has_bit word) n in
    let none = has_none word n in
    let one = has_one word n in
    grind (arith, ones_of_0, ones_of_1)

-- the ones of a word
pub ones_of : (word : ℕ) → word < 18446744073709551616 → count_ones word ≡ tally (has_bit word) 64
ones_of word fits = let e : word % 2 ^ 64 ≡ word = omega arith in ap count_ones (sym e) ∙ ones_low word 64

pub ones_few : (word : ℕ) → word < 18446744073709551616 → count_ones word ≤ 64
ones_few word fits = omega (arith, ones_of word fits, tally_add (has_bit word) 0 64 64 (omega arith), tally_none (has_bit word))

-- the ones among some places from one on
pub ones_there : (word at width : ℕ) → width < 64 → tally (has_bit word) (at + width) ≡ tally (has_bit word) at + count_ones (bit_and (word / 2 ^ at) (1 * 2 ^ width % 18446744073709551616 - 1))
ones_there word at width less =
    let mask : bit_and (word / 2 ^ at) (1 * 2 ^ width % 18446744073709551616 - 1) ≡ (word / 2 ^ at) % 2 ^ width = ap (λ m. bit_and (word / 2 ^ at) (m - 1)) (one_shl width 64 less) ∙ and_mask (word / 2 ^ at) width in
    tally_shift (has_bit word) (has_bit (word / 2 ^ at)) at width (λ i low. sym (shifted_bit word at i))
    ∙ ap (λ n. tally (has_bit word) at + n) (sym (ones_low (word / 2 ^ at) width) ∙ ap count_ones (sym mask))
