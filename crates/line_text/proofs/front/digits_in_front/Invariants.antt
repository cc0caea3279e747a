use Rattle.line_text.proofs.Prelude.{◌≡◌, ◌≤◌, take, AllDigits, digits_value}
use Rattle.line_text.proofs.front.digits_in_front.Given as goal

abbrev pub invariant-loop-i : goal.invariant-loop-i
invariant-loop-i l = record {
  digits : AllDigits 10 (take l.i l.bytes);
  value : l.i ≤ 8 → l.number ≡ digits_value 10 (take l.i l.bytes);
}
