use Rattle.auditor.proofs.Prelude.{by_error}
use Rattle.auditor.proofs.WholeTranscripts.{passed_at, passed_compared, passed_somewhere, waited}
use Rattle.auditor.proofs.PieceReading.{ends_further, parts_fault, waits_by}
use Rattle.auditor.proofs.transcript_cursor.TranscriptCursor.pass_parts.Goals as goal

pub returns-in_err-behind-clause-fault : goal.returns-in_err-behind-clause-fault
returns-in_err-behind-clause-fault c =
    by_error c.from_residual.result _ _ c.from_residual.ensures.1 (λ fault q bytes more start. rw q (parts_fault bytes more _ _ _ c.in_err-behind.ensures.fault (c.loop-behind.invariant.at bytes start)))

pub loop-behind-preserved : goal.loop-behind-preserved
loop-behind-preserved c =
    let passed = rw c.in-Some.is at c.in_ok-behind.ensures.ahead in
    record {
      at = λ bytes start. passed_at bytes _ _ _ _ (c.loop-behind.invariant.at bytes start) passed;
      somewhere = passed_somewhere _ _ _ _ c.loop-behind.invariant.somewhere passed;
      compared = passed_compared _ _ _ _ passed;
      ends = ends_further _ _ _ _ _ c.loop-behind.invariant.ends passed;
    }

pub returns-clause-at : goal.returns-clause-at
returns-clause-at c bytes start =
    waited bytes _ _ _ _ (waits_by (λ b. b.now) c.in_ok-behind.field-0 _ _ _ c.in_ok-behind.ensures.ahead c.in_default.not-Some) (c.loop-behind.invariant.at bytes start)
