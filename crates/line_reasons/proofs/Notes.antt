-- The form of a reason's line.
use Rattle.std.proofs.Common.{◌≡◌, ◌≤◌, ℕ, List, get_or, length, map, min, take, arith, refl}
use Rattle.std.proofs.lemmas.List.{length-map, length-take}
use Rattle.std.proofs.lemmas.List.Elements.{All-map}
use Rattle.line_reasons.specs.ReasonLine.{IsPrintable, IsReasonLine, printed, reason_note}

printable : (byte : ℕ) → IsPrintable (printed byte)
printable byte = (grind arith, grind arith)

few : (bytes : List ℕ) (text : List ℕ) → bytes ≡ take (min (length text) 255) text → length (map printed bytes) ≤ 255
few bytes text is =
    let mapped = length-map bytes printed in
    let taken = length-take (min (length text) 255) text in
    grind (arith, mapped, taken, is)

pub note_is : (text : List ℕ) → IsReasonLine (reason_note text)
note_is text =
    let bytes = take (min (length text) 255) text in record {
      text = map printed bytes;
      splits = refl;
      printable = All-map IsPrintable printed bytes (λ k d within. printable (get_or bytes k d));
      few = few bytes text refl;
    }
