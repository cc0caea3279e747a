-- Words as a set of names without counts.
use Rattle.enabled_set.proofs.Prelude.{◌≡◌, ℕ, zero, suc, ◌+◌, ◌-◌, ◌*◌, ◌/◌, ◌%◌, ◌<◌, ◌≤◌, ◌&&◌, min, ◌⊎◌, inl, inr, Bool, true, false, List, length, get_or, set, replicate, refl, sym, ap, subst, ◌∙◌, ⊎_elim, arith, ◌≢◌, cases_eq, cases_lt, true≢false, false_from_ne_true, nat_eq, bit_and, bit_at, w64, trailing_zeros, bit_at_and, bit_at-lt, bit_at-zero, length-set, length-replicate, get_or_past, get_or-set_same, get_or-set_other, is_in, members, first_bits, AreBlockCounts, AreTrimmed}
use Rattle.std.proofs.lemmas.Bool.{ne_eqb}
use Rattle.enabled_set.specs.Members.{has_bit, is_bit_on}
use Rattle.enabled_set.proofs.Bits.{first_some, has_none}
use Rattle.enabled_set.proofs.Changes.{same_put}
use Rattle.enabled_set.proofs.Members.{length-members}
use Rattle.enabled_set.proofs.PassCounts.{before_more, tally_flat, tally_none, tally_through}
use Rattle.enabled_set.proofs.Places.{in_places, length-places_of, on_none, on_word, places_are}
use Rattle.enabled_set.proofs.Sums.{everywhere}

-- a word of 0 has no bit
off_word : (words : List ℕ) (v : ℕ) → get_or words (v / 64) 0 ≡ 0 → is_bit_on words v ≡ false
unfolding is_bit_on
off_word words v none = ap (λ w. has_bit w (v % 64)) none ∙ has_none 0 (v % 64) (bit_at-zero (v % 64))

-- a word without bits is 0
zero_word : (word : ℕ) → word < 18446744073709551616 → ((i : ℕ) → i < 64 → has_bit word i ≡ false) → word ≡ 0
zero_word word fits none =
    ⊎_elim
    (λ (some : 0 < word). let first = first_some word fits some in absurd (true≢false (sym first.1 ∙ none (trailing_zeros w64 word) first.0)))
    (λ (low : word ≤ 0). omega (arith, low))
    (cases_lt 0 word)

-- 1,024 words have a bit for each name
pub bits_all : (words : List ℕ) → length words ≡ 1024 → (v : ℕ) → is_in (first_bits 65536 words) v ≡ is_bit_on words v
bits_all words room v = grind (arith, cases_lt, get_or_past, in_places, length-places_of, off_word)

-- ---- trimmed words

-- the words after a scan back from an index, if they are 0 from there on
pub trimmed_again : (words : List ℕ) (used end : ℕ) → length words ≡ 1024 → used ≤ 1024 → ((i : ℕ) → used ≤ i → get_or words i 0 ≡ 0) → end ≤ used → ((i : ℕ) → end ≤ i → i < used → get_or words i 0 ≡ 0) → (1 ≤ end → 1 ≤ get_or words (end - 1) 0) → AreTrimmed words end
trimmed_again words used end room most past within off last = grind (arith, cases_lt)

-- the set is empty exactly if no word has a bit
pub empty_is : (words : List ℕ) (used : ℕ) → ((i : ℕ) → get_or words i 0 < 18446744073709551616) → AreTrimmed words used → nat_eq used 0 ≡ nat_eq (length (members (first_bits 65536 words))) 0
empty_is words zero fits good =
    sym (ap (λ n. nat_eq n 0) (length-members (first_bits 65536 words)
    ∙ tally_flat (is_in (first_bits 65536 words)) 0 (length (first_bits 65536 words)) (omega arith) (λ k low high. bits_all words good.room k ∙ off_word words k (good.off (k / 64) (omega arith)))
    ∙ tally_none (is_in (first_bits 65536 words))))
empty_is words (suc used) fits good =
    let word = get_or words used 0 in
    let first = first_some word (fits used) (subst (λ k. 1 ≤ get_or words k 0) (let e : suc used - 1 ≡ used = omega arith in e) (good.last (omega arith))) in
    let at = trailing_zeros w64 word in
    let v = 64 * used + at in
    let on = bits_all words good.room v ∙ on_word words used at first.0 ∙ first.1 in
    let within = good.within in
    let len = length-places_of 65536 words in
    let there : v < length (first_bits 65536 words) = omega (arith, within, len, first.0) in
    let some = tally_through (is_in (first_bits 65536 words)) 0 v (length (first_bits 65536 words)) on (omega arith) there in
    let count = length-members (first_bits 65536 words) in
    not_none (suc used) (omega arith) ∙ sym (not_none (length (members (first_bits 65536 words))) (omega (arith, some, count)))
  where
    not_none : (n : ℕ) → 1 ≤ n → nat_eq n 0 ≡ false
    not_none n some = ne_eqb n 0 (λ e. omega (arith, some, e))

-- ---- the empty set

pub empty_trimmed : (words : List ℕ) → words ≡ replicate 1024 0 → AreTrimmed words 0
empty_trimmed words is = let o : ℕ = 0 in record {
  room = ap length is ∙ length-replicate 1024 o;
  within = omega arith;
  off = λ i low. ap (λ ws. get_or ws i 0) is ∙ everywhere 1024 i 0;
  last = λ some. absurd (omega (arith, some));
}

pub empty_bits : (words : List ℕ) → words ≡ replicate 1024 0 → first_bits 65536 words ≡ replicate 65536 false
empty_bits words is = places_are 65536 words (replicate 65536 false) (length-replicate 65536 false) (λ v there. everywhere 65536 v false ∙ sym (ap (λ ws. is_bit_on ws v) is ∙ on_none 1024 v))

-- ---- a name goes

-- a word that lost a bit has no bit more
pub bits_left : (word read at : ℕ) → has_bit word at ≡ false → ((i : ℕ) → i < 64 → i ≢ at → has_bit word i ≡ has_bit read i) → (i : ℕ) → i < 64 → has_bit word i ≡ true → has_bit read i ≡ true
bits_left word read at here others i low on =
    ⊎_elim (λ (same : i ≡ at). absurd (true≢false (sym on ∙ ap (has_bit word) same ∙ here))) (λ (apart : i ≢ at). sym (others i low apart) ∙ on) (cases_eq i at)

-- the words from an index on are 0 still
pub put_off : (words : List ℕ) (used k word : ℕ) → word < 18446744073709551616 → k < length words → ((i : ℕ) → used ≤ i → get_or words i 0 ≡ 0) → ((i : ℕ) → i < 64 → has_bit word i ≡ true → has_bit (get_or words k 0) i ≡ true) → (i : ℕ) → used ≤ i → get_or (set words k word) i 0 ≡ 0
put_off words used k word fits there off fewer i past =
    let gone : get_or words k 0 ≡ 0 → word ≡ 0 = λ is. zero_word word fits (λ j low. grind (arith, fewer j low, has_none (get_or words k 0) j, bit_at-zero j)) in
    grind (arith, cases_eq, get_or-set_other, get_or-set_same)

pub put_bits : (words : List ℕ) (v word : ℕ) → length words ≡ 1024 → v < 65536 → has_bit word (v % 64) ≡ false → ((i : ℕ) → i < 64 → i ≢ (v % 64) → has_bit word i ≡ has_bit (get_or words (v / 64) 0) i) → first_bits 65536 (set words (v / 64) word) ≡ set (first_bits 65536 words) v false
put_bits words v word room there here others =
    let len = length-places_of 65536 words in
    places_are 65536 (set words (v / 64) word) (set (first_bits 65536 words) v false) (length-set (first_bits 65536 words) v false ∙ len)
    (λ u low. same_put (first_bits 65536 words) words v word false (omega (arith, len, there)) (omega (arith, room, there)) (bits_all words room) here others u)

-- ---- names that two sets have

pub met_bit : (a b i : ℕ) → has_bit (bit_and a b) i ≡ (has_bit a i && has_bit b i)
unfolding has_bit
met_bit a b i = ap (λ n. nat_eq n 1) (bit_at_and a b i) ∙ both (bit_at a i) (bit_at b i) (bit_at-lt a i) (bit_at-lt b i)
  where
    both : (x y : ℕ) → x < 2 → y < 2 → nat_eq (min x y) 1 ≡ (nat_eq x 1 && nat_eq y 1)
    both zero zero h k = refl
    both zero (suc zero) h k = refl
    both (suc zero) zero h k = refl
    both (suc zero) (suc zero) h k = refl
    both (suc (suc x)) y h k = absurd (omega (arith, h))
    both x (suc (suc y)) h k = absurd (omega (arith, k))

pub met_on : (was other is : List ℕ) → ((i : ℕ) → get_or is i 0 ≡ bit_and (get_or was i 0) (get_or other i 0)) → (v : ℕ) → is_bit_on is v ≡ (is_bit_on was v && is_bit_on other v)
unfolding is_bit_on
met_on was other is each v = ap (λ w. has_bit w (v % 64)) (each (v / 64)) ∙ met_bit (get_or was (v / 64) 0) (get_or other (v / 64) 0) (v % 64)

-- ---- a copy

-- bits that agree up to 65,535 agree, if there are no others
pub copied_all : (words : List ℕ) (from : List Bool) (other : List ℕ) → length words ≡ 1024 → length from ≤ 65536 → ((v : ℕ) → is_in from v ≡ is_bit_on other v) → ((v : ℕ) → v < 65536 → is_bit_on words v ≡ is_bit_on other v) → (v : ℕ) → is_in (first_bits 65536 words) v ≡ is_in from v
copied_all words from other room few same copied v = grind (arith, bits_all, cases_lt, get_or_past, length-places_of)

-- a block that was passed over
pub lot_passed : (words other : List ℕ) (lot : ℕ) → ((i : ℕ) → 64 * lot ≤ i → get_or words i 0 ≡ 0) → ((v : ℕ) → 4096 * lot ≤ v → v < 4096 * lot + 4096 → is_bit_on other v ≡ false) → ((v : ℕ) → v < 4096 * lot → is_bit_on words v ≡ is_bit_on other v) → (v : ℕ) → v < 4096 * (lot + 1) → is_bit_on words v ≡ is_bit_on other v
lot_passed words other lot off none so_far v low = grind (arith, cases_lt, off_word)

-- a block that was copied, up to the end of the words
pub lot_copied : (was words other : List ℕ) (lot end : ℕ) → ((i : ℕ) → 64 * lot ≤ i → get_or was i 0 ≡ 0) → ((i : ℕ) → 64 * lot ≤ i → i < end → get_or words i 0 ≡ get_or other i 0) → ((i : ℕ) → (i < 64 * lot) ⊎ (end ≤ i) → get_or words i 0 ≡ get_or was i 0) → (end ≡ 64 * lot + 64) ⊎ (length other ≤ end) → ((v : ℕ) → v < 4096 * lot → is_bit_on was v ≡ is_bit_on other v) → (v : ℕ) → v < 4096 * (lot + 1) → is_bit_on words v ≡ is_bit_on other v
unfolding is_bit_on
lot_copied was words other lot end off copied others ends so_far v low = grind (arith, cases_lt, get_or_past)

-- a block without members, by its count
pub lot_none : (bits : List Bool) (counts : List ℕ) (lot v : ℕ) → AreBlockCounts bits 4096 counts → get_or counts lot 0 ≡ 0 → 4096 * lot ≤ v → v < 4096 * lot + 4096 → is_in bits v ≡ false
lot_none bits counts lot v good none from low =
    false_from_ne_true (is_in bits v) (λ on.
    let a = good.counted lot in
    let b = good.counted (suc lot) in
    let m = before_more counts lot in
    let t = tally_through (is_in bits) (4096 * lot) v (4096 * suc lot) on from (omega (arith, low)) in
    omega (arith, a, b, m, t, none))
