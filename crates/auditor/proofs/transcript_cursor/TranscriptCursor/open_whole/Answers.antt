use Rattle.auditor.proofs.Prelude.{[], append-nil}
use Rattle.auditor.proofs.transcript_cursor.TranscriptCursor.open_whole.Goals as goal

pub returns-in-Err-clause-fault : goal.returns-in-Err-clause-fault
returns-in-Err-clause-fault c = rw append-nil at (c.in-Err.ensures.fault [])
