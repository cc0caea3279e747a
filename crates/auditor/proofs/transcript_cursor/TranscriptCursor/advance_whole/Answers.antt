use Rattle.auditor.proofs.Prelude.{[], append-nil}
use Rattle.auditor.proofs.WholeTranscripts.{waited, waited_somewhere}
use Rattle.auditor.proofs.transcript_cursor.TranscriptCursor.advance_whole.Goals as goal

pub cut_off-requires-clause-at : goal.cut_off-requires-clause-at
cut_off-requires-clause-at c = waited_somewhere _ _ _ c.requires.at (rw c.in-Ok-None.field-0-is at c.in-Ok-None.ensures.ahead)

pub returns-in-Err-clause-fault : goal.returns-in-Err-clause-fault
returns-in-Err-clause-fault c bytes at = c.in-Err.ensures.fault bytes [] (rw (append-nil c.args.rest.now) at)

pub returns-in-Ok-None-clause-fault : goal.returns-in-Ok-None-clause-fault
returns-in-Ok-None-clause-fault c bytes at =
    let stays = rw c.in-Ok-None.field-0-is at c.in-Ok-None.ensures.ahead in
    rw stays.audit at (c.cut_off.ensures bytes (waited bytes _ _ _ _ stays at))
