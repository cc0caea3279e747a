-- The result of an audit, for C.
use Rattle.std.proofs.Common.{◌≡◌, ◌⊎◌, ℕ, List, Result, Ok, Err, inl, inr, refl, sym, ap, subst}
use Rattle.auditor.specs.declared.fault.AuditFault.{AuditFault}
use Rattle.auditor.specs.declared.fault.AuditFault.TheVariants.{Memory}
use Rattle.auditor.specs.declared.summary.Summary.{Summary}
use Rattle.auditor.specs.AcceptedRuns.{IsAccepted}
use Rattle.auditor.specs.Damage.{IsDamage}
use Rattle.auditor.specs.Verdict.{IsJudged}
use Rattle.rudekpi_c.specs.declared.verdict.Verdict.{Verdict}
use Rattle.rudekpi_c.specs.AuditVerdicts.{JudgedAs, accepted, damaged, unjudged, audit_verdict}

says_found : (bytes : List ℕ) (found : Result Summary AuditFault) → IsJudged bytes found
    → ((c : Summary) × IsAccepted bytes c × (audit_verdict found ≡ accepted c)) ⊎ ((d : AuditFault) × IsDamage bytes d × (audit_verdict found ≡ damaged d)) ⊎ (audit_verdict found ≡ unjudged)
says_found bytes (Ok c) judged = inl (c, judged, refl)
says_found bytes (Err Memory) judged = inr (inr refl)
says_found bytes (Err d) judged = inr (inl (d, judged, refl))

either : (found wanted : Result Summary AuditFault) → (found ≡ wanted) ⊎ (found ≡ Err Memory) → (audit_verdict found ≡ audit_verdict wanted) ⊎ (audit_verdict found ≡ unjudged)
either found wanted (inl is) = inl (ap audit_verdict is)
either found wanted (inr is) = inr (ap audit_verdict is)

pub judged_as : (bytes : List ℕ) (found : Result Summary AuditFault) (v : Verdict) → v ≡ audit_verdict found → IsJudged bytes found
    → ((c : Summary) → IsAccepted bytes c → (found ≡ Ok c) ⊎ (found ≡ Err Memory))
    → ((d : AuditFault) → IsDamage bytes d → (found ≡ Err d) ⊎ (found ≡ Err Memory))
    → JudgedAs bytes v
judged_as bytes found v told judged accepts names =
    subst (JudgedAs bytes) (sym told) (record {
      says = says_found bytes found judged;
      accepts_runs = λ c is. either found (Ok c) (accepts c is);
      names_damage = λ d is. either found (Err d) (names d is);
    })
