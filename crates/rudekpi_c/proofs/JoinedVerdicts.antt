-- What a joined verdict means.
use Rattle.std.proofs.Common.{◌≤◌, ◌≡◌, ◌⊎◌, ◌++◌, ◌∙◌, ℕ, List, Ok, Err, inl, inr, refl, sym, ap, ap₂, subst, arith}
use Rattle.auditor.specs.declared.fault.AuditFault.{AuditFault}
use Rattle.auditor.specs.declared.fault.AuditFault.TheVariants.{Read, Memory}
use Rattle.auditor.specs.declared.summary.Summary.{Summary}
use Rattle.auditor.specs.Damage.{IsDamage}
use Rattle.auditor.specs.AcceptedRuns.{IsAccepted}
use Rattle.auditor.specs.Verdict.{IsJudged}
use Rattle.auditor.proofs.VerdictUniqueness.{judged_accepts, judged_names}
use Rattle.audit_parts.specs.Continuations.{ContinuesRun}
use Rattle.audit_parts.specs.FieldRanges.{AreLinesBefore}
use Rattle.audit_parts.specs.Seams as seams
use Rattle.rudekpi_c.specs.declared.verdict.Verdict.{Verdict}
use Rattle.rudekpi_c.specs.JoinCalls.{CountsLines, IsJoined, said_by}
use Rattle.rudekpi_c.specs.AuditVerdicts.{JudgedAs, accepted, damaged, unjudged, audit_verdict}
use Rattle.rudekpi_c.proofs.AuditVerdicts.{judged_as}

-- a verdict of a text is what was found in it
pub record Found (bytes : List ℕ) (v : Verdict) : Type 0 where
  pub found : seams.Verdict
  pub is : v ≡ audit_verdict found
  pub judged : IsJudged bytes found

damage_judged : (bytes : List ℕ) (d : AuditFault) → IsDamage bytes d → IsJudged bytes (Err d)
damage_judged bytes Memory is = tt
damage_judged bytes d is = is

pub found_as : (bytes : List ℕ) (v : Verdict) → JudgedAs bytes v → Found bytes v
found_as bytes v judged = by judged.says
  where
    by : ((c : Summary) × IsAccepted bytes c × (v ≡ accepted c)) ⊎ ((d : AuditFault) × IsDamage bytes d × (v ≡ damaged d)) ⊎ (v ≡ unjudged) → Found bytes v
    by (inl (c, is, e)) = record { found = Ok c; is = e; judged = is }
    by (inr (inl (d, is, e))) = record { found = Err d; is = e; judged = damage_judged bytes d is }
    by (inr (inr e)) = record { found = Err Memory; is = e; judged = tt }

lines_before : (lines : ℕ) (own : List ℕ) (old next : Verdict) (v w : seams.Verdict) → old ≡ audit_verdict v → next ≡ audit_verdict w → CountsLines lines own old next → AreLinesBefore lines own v w
lines_before lines own old next (Ok c) (Ok d) e f before = tt
lines_before lines own old next (Ok c) (Err Read) e f before = tt
lines_before lines own old next (Ok c) (Err Memory) e f before = tt
lines_before lines own old next (Ok c) (Err d) e f before = before c d e f (λ none. let kinds = ap (λ (v : Verdict). v.kind) (sym f ∙ none) in omega (arith, kinds))
lines_before lines own old next (Err fault) w e f before = tt

-- the verdict of a result gives the result back, unless a read failed, which is judged of no bytes
said_judged : (bytes : List ℕ) (v : seams.Verdict) → IsJudged bytes v → said_by (audit_verdict v) ≡ v
said_judged bytes (Ok c) judged = refl
said_judged bytes (Err Read) judged = absurd judged
said_judged bytes (Err fault) judged = refl

-- a failed read leaves the bytes unjudged as want of memory does
said_joined : (v w : seams.Verdict) (lines : ℕ) → audit_verdict (seams.joined_verdict (said_by (audit_verdict v)) lines (said_by (audit_verdict w))) ≡ audit_verdict (seams.joined_verdict v lines w)
said_joined (Ok c) (Ok d) lines = refl
said_joined (Ok c) (Err Read) lines = refl
said_joined (Ok c) (Err fault) lines = refl
said_joined (Err Read) w lines = refl
said_joined (Err fault) w lines = refl

-- What two verdicts say of their texts, the joined verdict says of the whole: `own` is what the whole has
-- before the second text.
whole_judged : (lines : ℕ) (old next new : Verdict) (first second both : seams.Verdict) → first ≡ said_by old → second ≡ said_by next → new ≡ audit_verdict both → (former own latter : List ℕ)
    → (AreLinesBefore lines own first second → IsJudged former first → IsJudged latter second → IsJudged (own ++ latter) both)
    → CountsLines lines own old next → JudgedAs former old → JudgedAs latter next → JudgedAs (own ++ latter) new
whole_judged lines old next new first second both had also told former own latter judged before x y =
    let v = found_as former old x in
    let w = found_as latter next y in
    let same = had ∙ ap said_by v.is ∙ said_judged former v.found v.judged in
    let same' = also ∙ ap said_by w.is ∙ said_judged latter w.found w.judged in
    let lines_are = subst (λ (z : seams.Verdict). AreLinesBefore lines own z second) (sym same) (subst (AreLinesBefore lines own v.found) (sym same') (lines_before lines own old next v.found w.found v.is w.is before)) in
    let whole = judged lines_are (subst (IsJudged former) (sym same) v.judged) (subst (IsJudged latter) (sym same') w.judged) in
    judged_as (own ++ latter) both new told whole (judged_accepts (own ++ latter) both whole) (judged_names (own ++ latter) both whole)

pub was_joined : (lines : ℕ) (old next new : Verdict) (first second both : seams.Verdict) → (old.kind ≤ 6) × (next.kind ≤ 6) → first ≡ said_by old → second ≡ said_by next → new ≡ audit_verdict both → both ≡ seams.joined_verdict first lines second
    → ((former latter : List ℕ) (m : seams.Meets former latter) → AreLinesBefore lines m.own first second → IsJudged former first → IsJudged latter second → IsJudged (m.own ++ latter) both)
    → ((former latter : List ℕ) → ContinuesRun former latter → AreLinesBefore lines former first second → IsJudged former first → IsJudged latter second → IsJudged (former ++ latter) both)
    → IsJoined lines old next new
was_joined lines old next new first second both known had also told is judged continued = record {
  known = known;
  judged = λ former latter m. whole_judged lines old next new first second both had also told former m.own latter (judged former latter m);
  continued = λ former latter goes_on. whole_judged lines old next new first second both had also told former former latter (continued former latter goes_on);
  is = λ v w e f. told ∙ ap audit_verdict (is ∙ ap₂ (λ (x y : seams.Verdict). seams.joined_verdict x lines y) (had ∙ ap said_by e) (also ∙ ap said_by f)) ∙ said_joined v w lines;
}
