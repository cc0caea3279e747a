use Rattle.auditor.proofs.Prelude.{◌∙◌, sym, eqb-true, nil_from_length}
use Rattle.auditor.proofs.WholeTranscripts.{behind_judged, passed_at, passed_compared, passed_shorter, passed_somewhere}
use Rattle.auditor.proofs.transcript_cursor.TranscriptCursor.judge_whole.Goals as goal

pub loop-left-smaller : goal.loop-left-smaller
loop-left-smaller c = passed_shorter _ _ _ _ c.in-Ok.ensures.passed

pub loop-left-preserved : goal.loop-left-preserved
loop-left-preserved c = record {
  at = λ bytes start. passed_at bytes _ _ _ _ (c.loop-left.invariant.at bytes start) c.in-Ok.ensures.passed;
  somewhere = passed_somewhere _ _ _ _ c.loop-left.invariant.somewhere c.in-Ok.ensures.passed;
  compared = passed_compared _ _ _ _ c.in-Ok.ensures.passed;
}

pub returns-in-Err-clause-ended : goal.returns-in-Err-clause-ended
returns-in-Err-clause-ended c bytes start = behind_judged bytes _ _ (c.in-Err.ensures.fault bytes (c.loop-left.invariant.at bytes start))

pub into_end-requires : goal.into_end-requires
into_end-requires c =
    let none = nil_from_length c.loop-left.left.now (eqb-true _ 0 (sym c.is_empty.ensures ∙ c.loop-left-test.false)) in
    rw none at c.loop-left.invariant.somewhere

pub returns-clause-ended : goal.returns-clause-ended
returns-clause-ended c bytes start =
    let none = nil_from_length c.loop-left.left.now (eqb-true _ 0 (sym c.is_empty.ensures ∙ c.loop-left-test.false)) in
    c.into_end.ensures.ended bytes (rw none at (c.loop-left.invariant.at bytes start))
