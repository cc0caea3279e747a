-- What a verdict says of the bytes.
use Rattle.std.specs.Prelude.{◌≡◌, ◌⊎◌, ℕ, List, Result, Ok, Err}
use Rattle.auditor.specs.declared.fault.AuditFault.{AuditFault}
use Rattle.auditor.specs.declared.fault.AuditFault.TheVariants.{BadHeader, NotALine, OutOfOrder, NotTheMachines, BadBase, Read, Memory}
use Rattle.auditor.specs.declared.summary.Summary.{Summary}
use Rattle.auditor.specs.AcceptedRuns.{IsAccepted}
use Rattle.auditor.specs.Damage.{IsDamage}
use Rattle.rudekpi_c.specs.declared.verdict.Verdict.{Verdict}

-- the verdict of a transcript that is accepted with these counts
abbrev pub accepted : Summary → Verdict
accepted c = record { kind = 0; entries = c.entries; epochs = c.epochs; moves = c.moves; line = 0 }

-- the verdict of this kind, at this line
abbrev pub refused : ℕ → ℕ → Verdict
refused kind line = record { kind = kind; entries = 0; epochs = 0; moves = 0; line = line }

-- the verdict that memory ran out, which says nothing of the bytes
abbrev pub unjudged : Verdict
unjudged = refused 6 0

-- a damage by its kind, with the line; other faults leave the bytes unjudged
abbrev pub damaged : AuditFault → Verdict
damaged BadHeader = refused 1 1
damaged (NotALine line) = refused 2 line
damaged (OutOfOrder line) = refused 3 line
damaged (NotTheMachines line) = refused 4 line
damaged (BadBase line) = refused 5 line
damaged Read = unjudged
damaged Memory = unjudged

-- the verdict that encodes a result
abbrev pub audit_verdict : Result Summary AuditFault → Verdict
audit_verdict (Ok c) = accepted c
audit_verdict (Err fault) = damaged fault

-- The verdict is that the bytes are a transcript with these counts, or have this damage, or that memory ran
-- out. Unless memory ran out, every transcript is accepted and every damage is named.
pub record JudgedAs (bytes : List ℕ) (v : Verdict) : Type 0 where
  pub says : ((c : Summary) × IsAccepted bytes c × (v ≡ accepted c)) ⊎ ((d : AuditFault) × IsDamage bytes d × (v ≡ damaged d)) ⊎ (v ≡ unjudged)
  pub accepts_runs : (c : Summary) → IsAccepted bytes c → (v ≡ accepted c) ⊎ (v ≡ unjudged)
  pub names_damage : (d : AuditFault) → IsDamage bytes d → (v ≡ damaged d) ⊎ (v ≡ unjudged)
