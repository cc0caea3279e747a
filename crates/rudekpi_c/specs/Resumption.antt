-- Sessions that go on where the run of a transcript ended.
use Rattle.std.specs.Prelude.{◌≡◌, ◌⊎◌, ℕ, List, [], Option, None, Some}
use Rattle.script_text.specs.Script.{Progress, with_checkpoint}
use Rattle.auditor.specs.declared.transcript_end.TranscriptEnd.{TranscriptEnd}
use Rattle.auditor.specs.declared.fault.AuditFault.{AuditFault}
use Rattle.auditor.specs.declared.summary.Summary.{Summary}
use Rattle.auditor.specs.AcceptedRuns.{IsAccepted}
use Rattle.auditor.specs.Damage.{IsDamage}
use Rattle.auditor.specs.TranscriptEnds.{IsTranscriptEnd, end_moment}
use Rattle.rudekpi_c.specs.AuditVerdicts.{JudgedAs, accepted, damaged, unjudged}
use Rattle.rudekpi_c.specs.Session.{IsNewSession}
use Rattle.rudekpi_c.specs.declared.verdict.Verdict.{Verdict}
use Rattle.rudekpi_c.specs.declared.session.Session.{Session}

-- the progress at the end of a transcript's run, with the base there as text
abbrev pub resumed : TranscriptEnd → Progress
resumed end = with_checkpoint (record { rules = end.rules; moment = (end_moment end).moment; count = end.number; text = []; counting = None })

-- C keeps a session that goes on from the end of the run whose transcript the bytes are, and the verdict has
-- the transcript's counts
pub record IsResumedSession (bytes : List ℕ) (verdict : Verdict) (new : Option Session) : Type 0 where
  pub session : Session
  pub is : new ≡ Some session
  pub end : TranscriptEnd
  pub ended : IsTranscriptEnd bytes end
  pub counts : verdict ≡ accepted end.summary
  pub starts : IsNewSession (resumed end) session

-- 0: the session goes on; 7: the verdict is the damage that the bytes have; 3: memory ran out, before the bytes
-- were judged or after the verdict accepted them. After 7 and 3 there is no session.
abbrev pub ResumesSession : List ℕ → ℕ → Verdict → Option Session → Type 0
ResumesSession bytes status verdict new =
    JudgedAs bytes verdict
    × (((status ≡ 0) × IsResumedSession bytes verdict new)
    ⊎ ((status ≡ 7) × ((d : AuditFault) × IsDamage bytes d × (verdict ≡ damaged d)) × (new ≡ None))
    ⊎ ((status ≡ 3) × ((verdict ≡ unjudged) ⊎ ((c : Summary) × IsAccepted bytes c × (verdict ≡ accepted c))) × (new ≡ None)))
