use Rattle.auditor.proofs.Prelude.{◌≡◌, false, take, nat_eq}
use Rattle.std.specs.List.{list_any}
use Rattle.auditor.proofs.counted_part.has_colon.Given as goal

abbrev pub invariant-loop-b : goal.invariant-loop-b
invariant-loop-b l = list_any (λ b. nat_eq b 58) (take l.b-index l.line) ≡ false
