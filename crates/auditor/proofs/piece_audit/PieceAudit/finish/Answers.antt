use Rattle.auditor.proofs.TranscriptEnds.{ends_judged, fault_in}
use Rattle.auditor.proofs.piece_audit.PieceAudit.finish.Goals as goal

pub returns : goal.returns
returns c = rw c.summary_of.ensures (record {
  judged = λ bytes fed. ends_judged bytes c.into_end.result (c.into_end.ensures.ended bytes fed);
  accepts_runs = c.into_end.ensures.accepts_runs;
  never_read = λ e. c.into_end.ensures.never_read (fault_in c.into_end.result _ e);
  names_damage = c.into_end.ensures.names_damage;
})
