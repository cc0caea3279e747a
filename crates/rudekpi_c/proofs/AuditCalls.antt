-- What a piece that was fed, and a verdict, mean for an audit that C keeps.
use Rattle.std.proofs.Common.{◌≡◌, ◌≢◌, ◌∙◌, ◌++◌, ℕ, List, Option, Some, Result, Err, refl, sym, ap, subst}
use Rattle.auditor.specs.declared.fault.AuditFault.{AuditFault}
use Rattle.auditor.specs.declared.fault.AuditFault.TheVariants.{Memory}
use Rattle.auditor.specs.declared.piece_audit.PieceAudit.{PieceAudit}
use Rattle.auditor.specs.declared.summary.Summary.{Summary}
use Rattle.auditor.specs.Damage.{IsDamage}
use Rattle.auditor.specs.AuditPieces.{HasReadPieces}
use Rattle.auditor.specs.TranscriptCursors.{IsIncrementalAudit}
use Rattle.auditor.specs.Verdict.{IsJudged, JudgesDamage, JudgesRuns, found_by}
use Rattle.rudekpi_c.specs.declared.verdict.Verdict.{Verdict}
use Rattle.rudekpi_c.specs.AuditCalls.{AuditEnded, AuditFed, found_status}
use Rattle.rudekpi_c.specs.AuditVerdicts.{audit_verdict}
use Rattle.rudekpi_c.proofs.AuditVerdicts.{judged_as}

-- what is judged as a fault, unless memory ran out, is a damage
judged_damage : (bytes : List ℕ) (d : AuditFault) → d ≢ Memory → IsJudged bytes (Err d) → IsDamage bytes d
judged_damage bytes Memory other judged = absurd (other refl)
judged_damage bytes d other judged = judged

pub was_fed_piece : (piece : List ℕ) (a b : PieceAudit) (status : ℕ) (found : Result Unit AuditFault) (old new : Option PieceAudit) → old ≡ Some a → new ≡ Some b
    → ((bytes : List ℕ) → HasReadPieces bytes a → HasReadPieces (bytes ++ piece) b) → found ≡ found_by b.fault
    → ((fault : AuditFault) → a.fault ≡ Some fault → b.fault ≡ Some fault) → status ≡ found_status found → AuditFed piece status old new
was_fed_piece piece a b status found old new was is fed told for_good status_is =
    subst (λ (o : Option PieceAudit). AuditFed piece status o new) (sym was)
    (record { b = b; is = is; fed = fed; status_is = status_is ∙ ap found_status told; damaged = damaged; for_good = for_good })
  where
    damaged : (d : AuditFault) → d ≢ Memory → b.fault ≡ Some d → (bytes more : List ℕ) → HasReadPieces bytes a → IsDamage (bytes ++ piece ++ more) d
    damaged d other is bytes more before =
        judged_damage ((bytes ++ piece) ++ more) d other (subst (IsIncrementalAudit (bytes ++ piece) b.trial) is (fed bytes before) more)

pub was_judged : (a : PieceAudit) (v : Verdict) (found : Result Summary AuditFault) (old : Option PieceAudit) → old ≡ Some a → v ≡ audit_verdict found
    → ((bytes : List ℕ) → HasReadPieces bytes a → IsJudged bytes found) → ((bytes : List ℕ) → HasReadPieces bytes a → JudgesRuns bytes found)
    → ((bytes : List ℕ) → HasReadPieces bytes a → JudgesDamage bytes found) → AuditEnded 0 v old
was_judged a v found old was told judged runs damage =
    subst (λ (o : Option PieceAudit). AuditEnded 0 v o) (sym was) (refl, λ bytes fed. judged_as bytes found v told (judged bytes fed) (runs bytes fed) (damage bytes fed))
