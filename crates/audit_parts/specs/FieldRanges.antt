-- The verdicts whose numbers fit the program's fields, and the line count that a join needs.
use Rattle.std.specs.Prelude.{◌≡◌, ℕ, ◌<◌, ◌^◌, List, Ok, Err}
use Rattle.auditor.specs.declared.fault.AuditFault.{AuditFault}
use Rattle.auditor.specs.declared.fault.AuditFault.TheVariants.{BadHeader, NotALine, OutOfOrder, NotTheMachines, BadBase, Read, Memory}
use Rattle.auditor.specs.Damage.{line_feeds}
use Rattle.audit_parts.specs.Seams.{Verdict}

-- the line that a damage names; 0 for a fault that names none
abbrev pub line_of : AuditFault → ℕ
line_of BadHeader = 1
line_of (NotALine line) = line
line_of (OutOfOrder line) = line
line_of (NotTheMachines line) = line
line_of (BadBase line) = line
line_of Read = 0
line_of Memory = 0

-- each number fits its field
abbrev pub FitsFields : Verdict → Type 0
FitsFields (Ok c) = (c.entries < 2 ^ 32) × (c.epochs < 2 ^ 32) × (c.moves < 2 ^ 64)
FitsFields (Err fault) = line_of fault < 2 ^ 64

-- `lines` is the number of lines before the seam; `lines` matters only if a damage is found after the seam
abbrev pub AreLinesBefore : ℕ → List ℕ → Verdict → Verdict → Type 0
AreLinesBefore lines own (Ok c) (Err Read) = Unit {0}
AreLinesBefore lines own (Ok c) (Err Memory) = Unit {0}
AreLinesBefore lines own (Ok c) (Err damage) = lines ≡ line_feeds own
AreLinesBefore lines own first second = Unit {0}
