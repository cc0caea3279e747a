-- A session that goes on where a transcript's run ended.
use Rattle.std.proofs.Common.{◌≡◌, ℕ, List, Option, None, Result, Ok, Err, inl, inr, refl}
use Rattle.auditor.specs.declared.transcript_end.TranscriptEnd.{TranscriptEnd}
use Rattle.auditor.specs.declared.fault.AuditFault.{AuditFault}
use Rattle.auditor.specs.declared.fault.AuditFault.TheVariants.{Memory}
use Rattle.auditor.specs.TranscriptEnds.{EndsRun, summary_in}
use Rattle.auditor.specs.Verdict.{JudgesDamage, JudgesRuns}
use Rattle.auditor.proofs.TranscriptEnds.{ends_judged}
use Rattle.rudekpi_c.specs.declared.verdict.Verdict.{Verdict}
use Rattle.rudekpi_c.specs.declared.session.Session.{Session}
use Rattle.rudekpi_c.specs.AuditCalls.{found_status}
use Rattle.rudekpi_c.specs.AuditVerdicts.{JudgedAs, accepted, damaged, audit_verdict}
use Rattle.rudekpi_c.specs.Resumption.{ResumesSession}
use Rattle.rudekpi_c.proofs.AuditVerdicts.{judged_as}

-- the verdict is that of the bytes
pub end_judged : (bytes : List ℕ) (found : Result TranscriptEnd AuditFault) (v : Verdict) → v ≡ audit_verdict (summary_in found) → EndsRun bytes found → JudgesRuns bytes (summary_in found) → JudgesDamage bytes (summary_in found) → JudgedAs bytes v
end_judged bytes found v told ended accepts names = judged_as bytes (summary_in found) v told (ends_judged bytes found ended) accepts names

abbrev pub failed : AuditFault → Result Unit AuditFault
failed fault = Err fault

-- no session goes on from damaged bytes, or if memory runs out
pub not_resumed : (bytes : List ℕ) (fault : AuditFault) (status : ℕ) (v : Verdict) (new : Option Session) → JudgedAs bytes v → v ≡ damaged fault → EndsRun bytes (Err fault) → status ≡ found_status (failed fault) → new ≡ None → ResumesSession bytes status v new
not_resumed bytes Memory status v new judged told ended is none = (judged, inr (inr (is, inl told, none)))
not_resumed bytes damage status v new judged told ended is none = (judged, inr (inl (is, (damage, ended, told), none)))

-- no session goes on from bytes that are accepted, if memory runs out afterwards
pub left_out : (bytes : List ℕ) (end : TranscriptEnd) (v : Verdict) (new : Option Session) → JudgedAs bytes v → v ≡ accepted end.summary → EndsRun bytes (Ok end) → new ≡ None → ResumesSession bytes 3 v new
left_out bytes end v new judged told ended none = (judged, inr (inr (refl, inr (end.summary, ends_judged bytes (Ok end) ended, told), none)))
