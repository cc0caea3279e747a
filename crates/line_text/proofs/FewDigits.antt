-- Numbers of at most eight digits.
use Rattle.line_text.proofs.Prelude.{◌≡◌, ℕ, zero, suc, List, ◌^◌, ◌<◌, ◌≤◌, length, get_or, take, drop, sym, ap, ◌∙◌, arith, AllDigits, digits_value, digits_decimal, digits_value-decimal, length-decimal-le, first_decimal, decimal_digit, append-nil, length-take-le, digits_value_short, number_text, NoDigit, NumberThen, []}
use Rattle.line_text.proofs.Digits.{own, number_back, run_facts, run_found}

-- a number with a leading zero has one digit
lead : (n : ℕ) → n < 100000000 → get_or (number_text n) 0 0 ≡ 48 → length (number_text n) ≤ 1
lead zero h e = omega (arith, ap length (decimal_digit 0 (omega arith)))
lead (suc n) h e = omega (arith, first_decimal (suc n) (omega arith) (omega arith))

-- a number that no digit follows is one
pub number_once : (bytes : List ℕ) (m n : ℕ) (x y : List ℕ) → NumberThen bytes m x → NumberThen bytes n y → (m ≡ n) × (x ≡ y)
number_once bytes m n x y a b = number_back.once m n x y (omega (arith, a.fits)) (omega (arith, b.fits)) a.ends b.ends (sym a.is ∙ b.is)

-- what a number in front says of the run of digits there
pub number_facts_in : (bytes : List ℕ) (len n : ℕ) (rest : List ℕ) → len ≤ length bytes → AllDigits 10 (take len bytes) → NoDigit (drop len bytes) → NumberThen bytes n rest → (0 < len) × (len ≤ 8) × (get_or bytes 0 0 ≡ 48 → len ≤ 1)
number_facts_in bytes len n rest le d e h =
    let small = h.fits in
    let r = run_facts bytes len n rest (omega arith) le d e h.ends h.is in
    (r.0, omega (arith, r.1, length-decimal-le 8 n (omega arith) (omega arith) (omega arith)), λ z. omega (arith, r.1, lead n small (sym r.2 ∙ z)))

-- a short run of digits is a number, if it begins with no 0 or is one
pub number_found : (bytes : List ℕ) (len n : ℕ) → len ≤ length bytes → 0 < len → len ≤ 8 → AllDigits 10 (take len bytes) → NoDigit (drop len bytes) → (get_or bytes 0 0 ≡ 48 → len ≤ 1) → n ≡ digits_value 10 (take len bytes) → NumberThen bytes n (drop len bytes)
number_found bytes len n le some few d e lead v =
    let small : n < 100000000 = omega (arith, v, digits_value_short own (take len bytes) 8 d (omega (arith, few, length-take-le len bytes le))) in
    record { fits = small; ends = e; is = run_found bytes len n le some d lead v (omega (arith, small)) }

-- a number and no more
pub number_alone : (bytes : List ℕ) (n : ℕ) → n < 100000000 → bytes ≡ number_text n → NumberThen bytes n []
number_alone bytes n f e = record { fits = f; ends = λ h. omega (arith, h.0); is = e ∙ sym (append-nil (number_text n)) }

-- a number of few digits is small
pub number_few : (n : ℕ) → n < 2 ^ 64 → length (number_text n) ≤ 8 → n < 100000000
number_few n small few =
    let said = digits_value_short own (number_text n) 8 (digits_decimal own n small) few in
    omega (arith, said, digits_value-decimal own n small)
