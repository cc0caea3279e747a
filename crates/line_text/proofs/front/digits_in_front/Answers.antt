use Rattle.line_text.proofs.Prelude.{ℕ, ◌<◌, ◌≤◌, ◌+◌, ◌*◌, ◌%◌, ◌≡◌, List, length, get_or, take, ap, arith, IsInRange, AllDigits, digits_value, digits_more, digits_value_more, length-take-le, digit_value_digit, digits_value_short}
use Rattle.line_text.proofs.Digits.{own}
use Rattle.line_text.proofs.front.digits_in_front.Goals as goal

-- the number with one more digit, without a wrap
step : (bytes : List ℕ) (i value digit : ℕ) → i < length bytes → i ≤ 8 → AllDigits 10 (take i bytes) → IsInRange 48 57 (get_or bytes i 0)
    → value ≡ digits_value 10 (take i bytes) → digit + 48 ≡ get_or bytes i 0 → (value * 10 % 4294967296 + digit) % 4294967296 ≡ digits_value 10 (take (i + 1) bytes)
step bytes i value digit lt few d r is from =
    let k : length (take i bytes) ≡ i = length-take-le i bytes (omega (arith, lt)) in
    let short : value < 100000000 = omega (arith, is, digits_value_short own (take i bytes) 8 d (omega (arith, k, few))) in
    omega (arith, short, is, from, r.0, r.1, digits_value_more 10 bytes i lt, digit_value_digit (get_or bytes i 0) r)

-- a byte is a digit if it is at most nine above the first, modulo the word size
digit_of : (byte digit : ℕ) → byte < 256 → digit ≡ (byte + 4294967248) % 4294967296 → digit ≤ 9 → (digit + 48 ≡ byte) × IsInRange 48 57 byte
digit_of byte digit fits is low = let same : digit + 48 ≡ byte = omega arith in (same, (omega (arith, same), omega (arith, same)))

pub loop-i-preserved : goal.loop-i-preserved
loop-i-preserved c =
    let bytes = c.args.bytes.now in
    let byte = get_or bytes c.loop-i.i 0 in
    let digit = (c.from-digit.result + 4294967248) % 4294967296 in
    let fits : byte < 256 = omega (arith, c.type_inv.bytes c.loop-i.i) in
    let r = digit_of byte digit fits (ap (λ (x : ℕ). (x + 4294967248) % 4294967296) c.from-digit.ensures) c.if-digit-gt9.false in
    record {
      digits = digits_more 10 bytes c.loop-i.i c.loop-i-test.true c.loop-i.invariant.digits (omega (arith, digit_value_digit byte r.1, r.0, c.if-digit-gt9.false));
      value = λ few. step bytes c.loop-i.i c.loop-i.number digit c.loop-i-test.true (omega (arith, few)) c.loop-i.invariant.digits r.1 (c.loop-i.invariant.value (omega (arith, few))) r.0;
    }
