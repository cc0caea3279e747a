use Rattle.auditor.proofs.TranscriptEnds.{ends_judged, fault_in}
use Rattle.auditor.proofs.transcript.audit_bytes.Goals as goal

pub returns : goal.returns
returns c = rw c.summary_of.ensures (record {
  judged = ends_judged _ c.end_of_bytes.result c.end_of_bytes.ensures.ended;
  never_read = λ e. c.end_of_bytes.ensures.never_read (fault_in c.end_of_bytes.result _ e);
  accepts_runs = c.end_of_bytes.ensures.accepts_runs;
  names_damage = c.end_of_bytes.ensures.names_damage;
})
