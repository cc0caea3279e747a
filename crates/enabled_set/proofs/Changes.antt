-- One member more, and one less.
use Rattle.enabled_set.proofs.Prelude.{◌≡◌, ℕ, zero, suc, ◌+◌, ◌-◌, ◌*◌, ◌/◌, ◌%◌, ◌<◌, ◌≤◌, Bool, false, cond, List, length, get_or, set, replicate, sym, ap, subst, ◌∙◌, arith, ◌≢◌, get_or-set_other, get_or-set_same, length-set, length-replicate, get_or_read, set-get_or, is_in, has_bit, first_bits, tally, before, AreBlockCounts, HasRightCounts}
use Rattle.enabled_set.specs.Members.{is_bit_on}
use Rattle.enabled_set.proofs.PassCounts.{before_more, before_none, tally_add, tally_flat, tally_none, tally_set, tally_through}
use Rattle.enabled_set.proofs.Places.{length-places_of, places_are, put_here, put_there, on_none}
use Rattle.enabled_set.proofs.Sums.{everywhere}
use Rattle.enabled_set.proofs.Stretches.{count_put, stretch_there}

-- the count that was read
pub count_read : (bits : List Bool) (w : ℕ) (counts : List ℕ) (v n : ℕ) → 0 < w → AreBlockCounts bits w counts → v < length bits → n ≡ get_or counts (v / w) n → n ≡ get_or counts (v / w) 0
count_read bits w counts v n some good there read = get_or_read counts (v / w) n (stretch_there bits w counts v some good there) read 0

-- the bit that was read, of a name that has a place
pub bit_read : (bits : List Bool) (words s l : List ℕ) (total v read : ℕ) → HasRightCounts bits words s l total → v < length bits → read ≡ get_or words (v / 64) read → is_in bits v ≡ has_bit read (v % 64)
unfolding is_bit_on
bit_read bits words s l total v read good there is = grind (arith, get_or_read)

-- the set stays the same if a name is already as it is to be
pub put_same : (bits : List Bool) (v : ℕ) (b : Bool) → is_in bits v ≡ b → bits ≡ set bits v b
put_same bits v b is = sym (set-get_or bits v false) ∙ ap (λ x. set bits v x) is

-- there are no more members than places
pub total_few : (bits : List Bool) → tally (is_in bits) (length bits) ≤ length bits
total_few bits = let t = tally_add (is_in bits) 0 (length bits) (length bits) (omega arith) in let z = tally_none (is_in bits) in omega arith

-- the bits of the changed words
pub same_put : (bits : List Bool) (words : List ℕ) (v word : ℕ) (b : Bool) → v < length bits → v / 64 < length words → ((u : ℕ) → is_in bits u ≡ is_bit_on words u) → has_bit word (v % 64) ≡ b → ((i : ℕ) → i < 64 → i ≢ (v % 64) → has_bit word i ≡ has_bit (get_or words (v / 64) 0) i) → (u : ℕ) → is_in (set bits v b) u ≡ is_bit_on (set words (v / 64) word) u
same_put bits words v word b there room same here others u = grind (arith, get_or-set_same, put_here, get_or-set_other, put_there)

-- the words and the counts after a name was put in or taken out
pub counted_put : (len : ℕ) (words s l : List ℕ) (total v read word n x m y left : ℕ) (was b : Bool) → HasRightCounts (first_bits len words) words s l total → v < length (first_bits len words) → 1 ≤ v → read ≡ get_or words (v / 64) read → has_bit read (v % 64) ≡ was → has_bit word (v % 64) ≡ b → ((i : ℕ) → i < 64 → i ≢ (v % 64) → has_bit word i ≡ has_bit read i) → n ≡ get_or s (v / 512) n → x ≡ n + cond b 1 0 - cond was 1 0 → m ≡ get_or l (v / 4096) m → y ≡ m + cond b 1 0 - cond was 1 0 → left ≡ total + cond b 1 0 - cond was 1 0 → HasRightCounts (first_bits len (set words (v / 64) word)) (set words (v / 64) word) (set s (v / 512) x) (set l (v / 4096) y) left × (first_bits len (set words (v / 64) word) ≡ set (first_bits len words) v b)
counted_put len words s l total v read word n x m y left was b good there named is on here others is_n is_x is_m is_y is_left =
    let bits = first_bits len words in
    let old = bit_read bits words s l total v read good there is ∙ on in
    let in_512 = count_put bits 512 s v x b (omega arith) good.in_512 there (grind (arith, count_read bits 512 s v n (omega arith) good.in_512 there is_n)) in
    let in_4096 = count_put bits 4096 l v y b (omega arith) good.in_4096 there (grind (arith, count_read bits 4096 l v m (omega arith) good.in_4096 there is_m)) in
    let all = (tally_set bits v b (length bits) there).1 there in
    let some = tally_through (is_in bits) 0 v (length bits) in
    let in_all : tally (is_in (set bits v b)) (length bits) ≡ left = grind (arith, good.in_all) in
    grind (arith, length-set, same_put, get_or_read, get_or-set_other, places_are, length-places_of)

-- zero counts count no member
before_zeros : (m i : ℕ) → before (replicate m 0) i ≡ 0
before_zeros m zero = before_none (replicate m 0)
before_zeros m (suc i) = grind (arith, before_zeros m i, before_more, everywhere)

-- no place passes
pub tally_nobody : (n i : ℕ) → tally (is_in (replicate n false)) i ≡ 0
tally_nobody n i = tally_flat (is_in (replicate n false)) 0 i (omega arith) (λ k low high. everywhere n k false) ∙ tally_none (is_in (replicate n false))

-- the counts of the empty set
pub count_empty : (n w m : ℕ) → n ≤ w * m → AreBlockCounts (replicate n false) w (replicate m 0)
count_empty n w m most = grind (arith, length-replicate, before_zeros, tally_nobody)

-- words without bits have no member
nobody_on : (n : ℕ) (words : List ℕ) (v : ℕ) → words ≡ replicate (n / 64 + 8) 0 → is_in (replicate n false) v ≡ is_bit_on words v
nobody_on n words v is = everywhere n v false ∙ sym (ap (λ ws. is_bit_on ws v) is ∙ on_none (n / 64 + 8) v)

-- the places of words of no bits
pub places_empty : (n : ℕ) (words : List ℕ) → words ≡ replicate (n / 64 + 8) 0 → first_bits n words ≡ replicate n false
places_empty n words is = places_are n words (replicate n false) (length-replicate n false) (λ v there. nobody_on n words v is)

-- the empty set
pub counted_new : (n : ℕ) (words s l : List ℕ) → n ≤ 65536 → words ≡ replicate (n / 64 + 8) 0 → s ≡ replicate (n / 512 + 8) 0 → l ≡ replicate 16 0 → HasRightCounts (first_bits n words) words s l 0
counted_new n words s l few is_words is_s is_l =
    let len = length-replicate n false in
    let o : ℕ = 0 in
    let words_len = ap length is_words ∙ length-replicate (n / 64 + 8) o in
    let groups_len = ap length is_s ∙ length-replicate (n / 512 + 8) o in
    subst (λ (bits : List Bool). HasRightCounts bits words s l 0) (sym (places_empty n words is_words)) (record {
      few = omega (arith, len);
      covered = omega (arith, len, words_len);
      spare = omega (arith, len, words_len);
      nobody = everywhere n 0 false;
      same = λ v. nobody_on n words v is_words;
      in_512 = subst (AreBlockCounts (replicate n false) 512) (sym is_s) (count_empty n 512 (n / 512 + 8) (omega arith));
      in_4096 = subst (AreBlockCounts (replicate n false) 4096) (sym is_l) (count_empty n 4096 16 (omega arith));
      groups = omega (arith, len, groups_len);
      lots = ap length is_l ∙ length-replicate 16 o;
      in_all = tally_nobody n (length (replicate n false));
    })
