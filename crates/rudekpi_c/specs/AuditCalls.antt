-- What C's calls do to an audit that it feeds in pieces, status by status.
use Rattle.std.specs.Prelude.{◌≡◌, ◌≢◌, ◌⊎◌, ◌++◌, ℕ, List, [], Option, None, Some, Result, Ok, Err}
use Rattle.auditor.specs.declared.fault.AuditFault.{AuditFault}
use Rattle.auditor.specs.declared.fault.AuditFault.TheVariants.{Memory}
use Rattle.auditor.specs.declared.piece_audit.PieceAudit.{PieceAudit}
use Rattle.auditor.specs.Damage.{IsDamage}
use Rattle.auditor.specs.AuditPieces.{HasReadPieces}
use Rattle.auditor.specs.Verdict.{found_by}
use Rattle.rudekpi_c.specs.declared.verdict.Verdict.{Verdict}
use Rattle.rudekpi_c.specs.AuditVerdicts.{JudgedAs, unjudged}

-- an audit that has been fed nothing and has found no damage
pub record IsAuditBegun (new : Option PieceAudit) : Type 0 where
  pub audit : PieceAudit
  pub is : new ≡ Some audit
  pub fed : HasReadPieces [] audit
  pub found : audit.fault ≡ None

-- 0: the audit began; 3: memory ran out, and there is no audit
abbrev pub AuditBegun : ℕ → Option PieceAudit → Type 0
AuditBegun status new = ((status ≡ 0) × IsAuditBegun new) ⊎ ((status ≡ 3) × (new ≡ None))

-- 0: no fault was found; 7: a damage was found; 3: memory ran out
abbrev pub found_status : {A : Type 0} → Result A AuditFault → ℕ
found_status (Ok fine) = 0
found_status (Err Memory) = 3
found_status (Err damage) = 7

-- the audit was fed the piece after all pieces before. A damage found is the damage of every text that begins
-- with these pieces. A fault that was found stays.
pub record IsAuditFed (piece : List ℕ) (status : ℕ) (a : PieceAudit) (new : Option PieceAudit) : Type 0 where
  pub b : PieceAudit
  pub is : new ≡ Some b
  pub fed : (bytes : List ℕ) → HasReadPieces bytes a → HasReadPieces (bytes ++ piece) b
  pub status_is : status ≡ found_status (found_by b.fault)
  pub damaged : (d : AuditFault) → d ≢ Memory → b.fault ≡ Some d → (bytes more : List ℕ) → HasReadPieces bytes a → IsDamage (bytes ++ piece ++ more) d
  pub for_good : (fault : AuditFault) → a.fault ≡ Some fault → b.fault ≡ Some fault

-- 4: there is no audit
abbrev pub AuditFed : List ℕ → ℕ → Option PieceAudit → Option PieceAudit → Type 0
AuditFed piece status None new = (status ≡ 4) × (new ≡ None)
AuditFed piece status (Some a) new = IsAuditFed piece status a new

-- 0: the verdict is that of the text that the audit was fed; 4: there is no audit
abbrev pub AuditEnded : ℕ → Verdict → Option PieceAudit → Type 0
AuditEnded status verdict None = (status ≡ 4) × (verdict ≡ unjudged)
AuditEnded status verdict (Some a) = (status ≡ 0) × ((bytes : List ℕ) → HasReadPieces bytes a → JudgedAs bytes verdict)
