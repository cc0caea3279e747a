-- A text has one verdict.
use Rattle.std.proofs.Common.{◌≡◌, ℕ, List, ap}
use Rattle.auditor.specs.declared.fault.AuditFault.{AuditFault}
use Rattle.auditor.specs.declared.summary.Summary.{Summary}
use Rattle.auditor.proofs.TextEnds.{damage_once, count_once, accepted_no_damage}
use Rattle.command_line.specs.declared.verdict.CheckEnd.{CheckEnd}
use Rattle.command_line.specs.declared.verdict.CheckEnd.TheVariants.{Accepted, Refused}
use Rattle.command_line.specs.CheckResults.{IsVerdict}

pub verdict_once : (bytes : List ℕ) (end also : CheckEnd) → IsVerdict bytes end → IsVerdict bytes also → end ≡ also
verdict_once bytes (Accepted c) (Accepted d) x y = ap (λ (s : Summary). Accepted s) (count_once bytes c d x y)
verdict_once bytes (Accepted c) (Refused f) x y = absurd (accepted_no_damage bytes c f x y)
verdict_once bytes (Refused f) (Accepted c) x y = absurd (accepted_no_damage bytes c f y x)
verdict_once bytes (Refused f) (Refused g) x y = ap (λ (a : AuditFault). Refused a) (damage_once bytes f g x y)
