-- The decimal text of a number in windows of eight bytes: its digits, the zeros that lead them, and how they are written.
use Rattle.line_text.proofs.Prelude.{◌≡◌, ℕ, zero, suc, ◌+◌, ◌-◌, ◌*◌, ◌/◌, ◌%◌, ◌<◌, ◌≤◌, Bool, true, ◌&&◌, T, eqb, eqb→eq, ◌∷◌, ◌++◌, get_or, inl, inr, eq-zero-or-pos, arith, decimal, decimal_digit, pair, decimal_two, decimal_pair, decimal_four, PAIRS, ◌^◌, [], length, refl, w64, add-one, from_le_bytes, cases_lt, mod-pow-add, six_digits, List, take, drop, ap, ◌∙◌, sym, take-put_mid, take-take, length-take-le, take-append-add, to_le_bytes, div-div-eq-div-mul, decimal_nonempty, le_bytes_8}
use lib.Ieee.Fits.{and_l, and_r}
use Rattle.std.specs.Int.Count.{count_trailing_zeros}
use borrow.Rule.Slice.PartMut.{put_mid}

-- ---- the decimal text, two digits at a time

abbrev are_pairs : ℕ → Bool
are_pairs zero = true
are_pairs (suc p) = (eqb (get_or PAIRS (p * 2) 0) (48 + p / 10) && eqb (get_or PAIRS (p * 2 + 1) 0) (48 + p % 10)) && are_pairs p

below : (n p : ℕ) → T (are_pairs n) → p < n → (get_or PAIRS (p * 2) 0 ≡ 48 + p / 10) × (get_or PAIRS (p * 2 + 1) 0 ≡ 48 + p % 10)
below zero p t h = absurd (omega arith)
below (suc n) p t h =
    elim (eq-zero-or-pos (n - p)) [
      | inl z ↦ let e : p ≡ n = omega arith in let a = and_l _ (are_pairs n) t in rw e (eqb→eq _ _ (and_l _ _ a), eqb→eq _ _ (and_r _ _ a))
      | inr g ↦ below n p (and_r _ (are_pairs n) t) (omega arith)
    ]

pub PAIRS_at : (p : ℕ) → p < 100 → (get_or PAIRS (p * 2) 0 ≡ 48 + p / 10) × (get_or PAIRS (p * 2 + 1) 0 ≡ 48 + p % 10)
PAIRS_at p h = below 100 p tt h

pub decimal_of_three : (n : ℕ) → 100 ≤ n → n / 100 < 10 → decimal n ≡ (48 + n / 100) ∷ pair (n % 100)
decimal_of_three n lo hi = rw (decimal_pair n lo (omega (arith, hi)), decimal_digit (n / 100) hi)

pub decimal_of_four : (n : ℕ) → 10 ≤ n / 100 → n < 10000 → decimal n ≡ pair (n / 100) ++ pair (n % 100)
decimal_of_four n lo hi = rw (decimal_pair n (omega (arith, lo)) (omega arith), decimal_two (n / 100) lo (omega arith))

pub decimal_of_five : (n : ℕ) → 10000 ≤ n → n / 10000 < 10 → decimal n ≡ (48 + n / 10000) ∷ (pair (n % 10000 / 100) ++ pair (n % 10000 % 100))
decimal_of_five n lo hi = rw (decimal_four n lo (omega (arith, hi)), decimal_digit (n / 10000) hi)

pub decimal_of_six : (n : ℕ) → 10 ≤ n / 10000 → n < 1000000 → decimal n ≡ pair (n / 10000) ++ (pair (n % 10000 / 100) ++ pair (n % 10000 % 100))
decimal_of_six n lo hi = rw (decimal_four n (omega (arith, lo)) (omega arith), decimal_two (n / 10000) lo (omega arith))

-- ---- the zeros below a number's lowest bit, and those that lead its digits

even : (k n : ℕ) → n % 2 ≡ 0 → count_trailing_zeros (suc k) n ≡ suc (count_trailing_zeros k (n / 2))
unfolding count_trailing_zeros
even k n e = rw e refl

odd : (k n : ℕ) → n % 2 ≡ 1 → count_trailing_zeros (suc k) n ≡ 0
unfolding count_trailing_zeros
odd k n e = rw e refl

half : (k n : ℕ) → count_trailing_zeros (suc k) (n * 2) ≡ suc (count_trailing_zeros k n)
half k n = let e : n * 2 / 2 ≡ n = omega arith in rw (even k (n * 2) (omega arith), e)

-- a byte of zeros below
zero_byte : (k n : ℕ) → count_trailing_zeros (suc (suc (suc (suc (suc (suc (suc (suc k)))))))) (n * 256) ≡ suc (suc (suc (suc (suc (suc (suc (suc (count_trailing_zeros k n))))))))
zero_byte k n =
    let e : n * 256 ≡ n * 2 * 2 * 2 * 2 * 2 * 2 * 2 * 2 = omega arith in
    rw (e, half _ (n * 2 * 2 * 2 * 2 * 2 * 2 * 2), half _ (n * 2 * 2 * 2 * 2 * 2 * 2), half _ (n * 2 * 2 * 2 * 2 * 2), half _ (n * 2 * 2 * 2 * 2), half _ (n * 2 * 2 * 2), half _ (n * 2 * 2), half _ (n * 2), half _ n)

-- a bit that is set among the lowest
within : (j k n : ℕ) → j ≤ k → 0 < n % 2 ^ j → count_trailing_zeros k n < j
within zero k n le h = absurd (omega arith)
within (suc j) zero n le h = absurd (omega arith)
within (suc j) (suc k) n le h =
    elim (eq-zero-or-pos (n % 2)) [
      | inl z ↦
          let p = rw (add-one j) at (mod-pow-add n j 1) in
          let g : 0 < n / 2 % 2 ^ j = omega arith in
          let i = within j k (n / 2) (omega arith) g in
          rw (even k n z) (omega arith)
      | inr g ↦ rw (odd k n (omega arith)) (omega arith)
    ]

-- how many whole bytes of zeros there are, by the first byte that has a bit
led_none : (x : ℕ) → 0 < x % 256 → count_trailing_zeros 64 x / 8 ≡ 0
led_none x h = omega (arith, within 8 64 x (omega arith) h)

led_one : (m : ℕ) → 0 < m % 256 → count_trailing_zeros 64 (m * 256) / 8 ≡ 1
led_one m h = rw (zero_byte 56 (m)) (omega (arith, within 8 56 m (omega arith) h))

led_two : (m : ℕ) → 0 < m % 256 → count_trailing_zeros 64 (m * 256 * 256) / 8 ≡ 2
led_two m h = rw (zero_byte 56 (m * 256), zero_byte 48 (m)) (omega (arith, within 8 48 m (omega arith) h))

led_three : (m : ℕ) → 0 < m % 256 → count_trailing_zeros 64 (m * 256 * 256 * 256) / 8 ≡ 3
led_three m h = rw (zero_byte 56 (m * 256 * 256), zero_byte 48 (m * 256), zero_byte 40 (m)) (omega (arith, within 8 40 m (omega arith) h))

led_four : (m : ℕ) → 0 < m % 256 → count_trailing_zeros 64 (m * 256 * 256 * 256 * 256) / 8 ≡ 4
led_four m h = rw (zero_byte 56 (m * 256 * 256 * 256), zero_byte 48 (m * 256 * 256), zero_byte 40 (m * 256), zero_byte 32 (m)) (omega (arith, within 8 32 m (omega arith) h))

led_five : (m : ℕ) → 0 < m % 256 → count_trailing_zeros 64 (m * 256 * 256 * 256 * 256 * 256) / 8 ≡ 5
led_five m h = rw (zero_byte 56 (m * 256 * 256 * 256 * 256), zero_byte 48 (m * 256 * 256 * 256), zero_byte 40 (m * 256 * 256), zero_byte 32 (m * 256), zero_byte 24 (m)) (omega (arith, within 8 24 m (omega arith) h))

-- six digits without the code of 0, and a bit above them
bare : (n d : ℕ) → n < 1000000 → d ≡ from_le_bytes w64 (six_digits n ++ (0 ∷ 0 ∷ []))
    → d + 87753963327440 ≡ n / 100 / 100 / 10 + n / 100 / 100 % 10 * 256 + n / 100 % 100 / 10 * 65536 + n / 100 % 100 % 10 * 16777216 + n % 100 / 10 * 4294967296 + (n % 100 % 10 + 128) * 1099511627776
bare n d h e = rw e (omega arith)

-- the whole bytes of zeros are the zeros that lead
pub zeros_led : (n d : ℕ) → n < 1000000 → d ≡ from_le_bytes w64 (six_digits n ++ (0 ∷ 0 ∷ [])) → count_trailing_zeros 64 (d + 87753963327440) / 8 ≡ 6 - length (decimal n)
zeros_led n d h e =
    let s = bare n d h e in
    elim (cases_lt n 10) [
      | inl a ↦
          let x : d + 87753963327440 ≡ (n + 128) * 256 * 256 * 256 * 256 * 256 = omega arith in
          rw (x, decimal_digit n a) (led_five (n + 128) (omega arith))
      | inr a ↦ elim (cases_lt n 100) [
        | inl b ↦
            let m : ℕ = n / 10 + (n % 10 + 128) * 256 in
            let x : d + 87753963327440 ≡ m * 256 * 256 * 256 * 256 = omega arith in
            rw (x, decimal_two n a b) (led_four m (omega arith))
        | inr b ↦ elim (cases_lt n 1000) [
          | inl f ↦
              let m : ℕ = n / 100 + n % 100 / 10 * 256 + (n % 10 + 128) * 65536 in
              let x : d + 87753963327440 ≡ m * 256 * 256 * 256 = omega arith in
              rw (x, decimal_of_three n b (omega arith)) (led_three m (omega arith))
          | inr f ↦ elim (cases_lt n 10000) [
            | inl g ↦
                let m : ℕ = n / 1000 + n / 100 % 10 * 256 + n % 100 / 10 * 65536 + (n % 10 + 128) * 16777216 in
                let x : d + 87753963327440 ≡ m * 256 * 256 = omega arith in
                rw (x, decimal_of_four n (omega arith) g) (led_two m (omega arith))
            | inr g ↦ elim (cases_lt n 100000) [
              | inl i ↦
                  let m : ℕ = n / 10000 + n / 1000 % 10 * 256 + n / 100 % 10 * 65536 + n % 100 / 10 * 16777216 + (n % 10 + 128) * 4294967296 in
                  let x : d + 87753963327440 ≡ m * 256 = omega arith in
                  rw (x, decimal_of_five n g (omega arith)) (led_one m (omega arith))
              | inr i ↦ rw (decimal_of_six n (omega arith) h) (led_none (d + 87753963327440) (omega arith))
            ]
          ]
        ]
      ]
    ]

-- ---- windows

pub take-put_mid_part : (a k m : ℕ) (xs ys : List ℕ) → m ≤ length ys → a ≤ length xs → take (a + m) (put_mid a k xs ys) ≡ take a xs ++ take m ys
take-put_mid_part a k m xs ys few within =
    let whole : take (a + length ys) (put_mid a k xs ys) ≡ take a xs ++ ys = take-put_mid a k xs ys (a + length ys) refl within in
    let len : length (take a xs) ≡ a = length-take-le a xs within in
    let cut : take (length (take a xs) + m) (take a xs ++ ys) ≡ take a xs ++ take m ys = take-append-add (take a xs) ys m in
    sym (take-take (a + m) (a + length ys) (put_mid a k xs ys) (omega arith)) ∙ ap (take (a + m)) whole ∙ (rw len at cut)

-- the six digits without the zeros that lead them
pub decimal_in_six : (n : ℕ) → n < 1000000 → drop (6 - length (decimal n)) (six_digits n) ≡ decimal n
decimal_in_six n h =
    elim (cases_lt n 10) [
      | inl a ↦ let e : n % 100 % 10 ≡ n = omega arith in rw (decimal_digit n a, e)
      | inr a ↦ elim (cases_lt n 100) [
        | inl b ↦ let e : n % 100 ≡ n = omega arith in rw (decimal_two n a b, e)
        | inr b ↦ elim (cases_lt n 1000) [
          | inl d ↦ let e : n / 100 % 100 % 10 ≡ n / 100 = omega arith in rw (decimal_of_three n b (omega arith), e)
          | inr d ↦ elim (cases_lt n 10000) [
            | inl f ↦ let e : n / 100 % 100 ≡ n / 100 = omega arith in rw (decimal_of_four n (omega arith) f, e)
            | inr f ↦
                let x : n % 10000 / 100 ≡ n / 100 % 100 = omega arith in
                let y : n % 10000 % 100 ≡ n % 100 = omega arith in
                let z : n / 100 / 100 ≡ n / 10000 = omega arith in
                elim (cases_lt n 100000) [
                  | inl g ↦ let e : n / 10000 % 10 ≡ n / 10000 = omega arith in rw (decimal_of_five n f (omega arith), x, y, z, e)
                  | inr g ↦ rw (decimal_of_six n (omega arith) h, x, y, z)
                ]
          ]
        ]
      ]
    ]

-- bytes that were shifted down by the zeros that lead a number
shifted_bytes : (v : ℕ) (bs : List ℕ) → to_le_bytes w64 v ≡ bs → (j : ℕ) → j ≤ 5 → take (7 - j) (to_le_bytes w64 (v / 2 ^ (8 * j))) ≡ take (7 - j) (drop j bs)
shifted_bytes v bs e zero h = let z : v / 1 ≡ v = omega arith in rw (z, ← e)
shifted_bytes v bs e (suc (suc (suc (suc (suc (suc j)))))) h = absurd (omega arith)
shifted_bytes v bs e j h = rw (← e) (simp div-div-eq-div-mul)

-- six digits and a byte, without the first of them
cut : (n b j : ℕ) → j ≤ 5 → take (7 - j) (drop j (six_digits n ++ (b ∷ 0 ∷ []))) ≡ drop j (six_digits n) ++ b ∷ []
cut n b (suc (suc (suc (suc (suc (suc j)))))) h = absurd (omega arith)
cut n b j h = refl

bounded : (n b : ℕ) → n < 1000000 → b < 256 → (i : ℕ) → get_or (six_digits n ++ (b ∷ 0 ∷ [])) i 0 < 256
bounded n b h k (suc (suc (suc (suc (suc (suc (suc (suc i)))))))) = omega arith
bounded n b h k i = omega arith

-- a number and the byte after it, in the window after the zeros
pub number_in_window : (n b v j : ℕ) → n < 1000000 → b < 256 → v ≡ from_le_bytes w64 (six_digits n ++ (b ∷ 0 ∷ [])) → j ≡ 6 - length (decimal n) → take (7 - j) (to_le_bytes w64 (v / 2 ^ (8 * j))) ≡ decimal n ++ b ∷ []
number_in_window n b v j h k e z =
    let few : j ≤ 5 = omega (arith, decimal_nonempty n (omega arith)) in
    let bytes = le_bytes_8 (six_digits n ++ (b ∷ 0 ∷ [])) v refl (bounded n b h k) e in
    shifted_bytes v (six_digits n ++ (b ∷ 0 ∷ [])) bytes j few ∙ cut n b j few ∙ ap (λ (x : List ℕ). x ++ b ∷ []) (rw z (decimal_in_six n h))

-- six digits, and a byte after them
pub packed : (n b d : ℕ) → n < 1000000 → b < 256 → d ≡ from_le_bytes w64 (six_digits n ++ (0 ∷ 0 ∷ [])) → d + b * 281474976710656 % 18446744073709551616 ≡ from_le_bytes w64 (six_digits n ++ (b ∷ 0 ∷ []))
packed n b d h k e =
    let m : b * 281474976710656 % 18446744073709551616 ≡ b * 281474976710656 = omega arith in
    rw (m, e) (omega arith)
