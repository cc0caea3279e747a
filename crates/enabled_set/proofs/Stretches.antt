-- Counts that say how many members each stretch of places has.
use Rattle.enabled_set.proofs.Prelude.{◌≡◌, ℕ, suc, ◌+◌, ◌-◌, ◌*◌, ◌/◌, ◌<◌, ◌≤◌, Bool, true, cond, List, length, get_or, set, ap, ⊎_elim, arith, cases_lt, length-set, div-lt_iff_lt-mul, mul-suc, mul_comm, le-div_iff_mul-le, is_in, AreBlockCounts}
use Rattle.enabled_set.proofs.PassCounts.{before_more, before_set, tally_add, tally_set, tally_through}

-- a block ends before a place, or the place is in the block or before it
block_end : (w v i : ℕ) → 0 < w → (v < w * i → v / w < i) × (w * i ≤ v → i ≤ v / w)
block_end w v i some = (λ low. grind (arith, mul_comm, div-lt_iff_lt-mul), λ past. grind (arith, mul_comm, le-div_iff_mul-le))

-- a stretch has no more members than places
pub count_few : (bits : List Bool) (w : ℕ) (counts : List ℕ) (j : ℕ) → AreBlockCounts bits w counts → get_or counts j 0 ≤ w
count_few bits w counts j good =
    let a = good.counted j in
    let b = good.counted (suc j) in
    let m = before_more counts j in
    let t = tally_add (is_in bits) (w * j) w (w * suc j) (mul-suc w j) in
    omega arith

-- the stretch of a member has some
pub count_some : (bits : List Bool) (w : ℕ) (counts : List ℕ) (v : ℕ) → 0 < w → AreBlockCounts bits w counts → is_in bits v ≡ true → 1 ≤ get_or counts (v / w) 0
count_some bits w counts v some good on =
    let a = good.counted (v / w) in
    let b = good.counted (suc (v / w)) in
    let m = before_more counts (v / w) in
    let t = tally_through (is_in bits) (w * (v / w)) v (w * suc (v / w)) on (grind (arith, mul_comm, le-div_iff_mul-le)) (grind (arith, mul_comm, div-lt_iff_lt-mul)) in
    omega arith

-- the place of a name's stretch
pub stretch_there : (bits : List Bool) (w : ℕ) (counts : List ℕ) (v : ℕ) → 0 < w → AreBlockCounts bits w counts → v < length bits → v / w < length counts
stretch_there bits w counts v some good there = grind (arith, mul_comm, div-lt_iff_lt-mul)

-- the counts after a name was put in or taken out
pub count_put : (bits : List Bool) (w : ℕ) (counts : List ℕ) (v x : ℕ) (b : Bool) → 0 < w → AreBlockCounts bits w counts → v < length bits → x ≡ get_or counts (v / w) 0 + cond b 1 0 - cond (is_in bits v) 1 0 → AreBlockCounts (set bits v b) w (set counts (v / w) x)
count_put bits w counts v x b some good there is = record {
  covers = omega (arith, good.covers, length-set bits v b, ap (λ m. w * m) (length-set counts (v / w) x));
  counted = λ i.
      let counted = good.counted i in
      let end = block_end w v i some in
      let has = count_some bits w counts v some good in
      let sums = before_set counts (v / w) x i (stretch_there bits w counts v some good there) in
      let tallies = tally_set bits v b (w * i) there in
      ⊎_elim
      (λ (past : v < w * i). grind (arith, sums.1 (end.0 past), tallies.1 past))
      (λ (low : w * i ≤ v). omega (arith, counted, sums.0 (end.1 low), tallies.0 low))
      (cases_lt v (w * i));
}
