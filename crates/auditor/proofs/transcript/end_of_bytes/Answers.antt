use Rattle.auditor.proofs.Prelude.{Err, ap, arith}
use Rattle.auditor.specs.TranscriptEnds.{summary_in}
use Rattle.auditor.proofs.VerdictUniqueness.{judged_accepts, judged_names, judged_read}
use Rattle.auditor.proofs.TranscriptEnds.{ends_judged}
use Rattle.auditor.proofs.WholeTranscripts.{begun_at, compared_none, first_judged}
use Rattle.auditor.proofs.transcript.end_of_bytes.Goals as goal

pub judge_whole-requires : goal.judge_whole-requires
judge_whole-requires c = record {
  at = ∣ record { bytes = c.args.bytes.now; few = omega arith; at = begun_at _ _ _ c.in-Ok.ensures.begins } ∣₁;
  compared = compared_none _ _ c.in-Ok.ensures.begins.unwanted c.in-Ok.ensures.begins.none_same;
}

pub returns-in-Ok : goal.returns-in-Ok
returns-in-Ok c =
    let ended = c.judge_whole.ensures.ended c.args.bytes.now (begun_at _ _ _ c.in-Ok.ensures.begins) in
    let judged = ends_judged c.args.bytes.now c.judge_whole.result ended in
    record {
      ended = ended;
      never_read = λ e. judged_read _ _ judged (ap summary_in e);
      accepts_runs = judged_accepts _ _ judged;
      names_damage = judged_names _ _ judged;
      goes_on = c.judge_whole.ensures.goes_on;
    }

pub returns-in-Err : goal.returns-in-Err
returns-in-Err c =
    let judged = first_judged c.args.bytes.now c.in-Err.fault c.in-Err.ensures.fault in
    record {
      ended = judged;
      never_read = λ e. judged_read c.args.bytes.now (Err c.in-Err.fault) judged (ap summary_in e);
      accepts_runs = judged_accepts c.args.bytes.now (Err c.in-Err.fault) judged;
      names_damage = judged_names c.args.bytes.now (Err c.in-Err.fault) judged;
      goes_on = tt;
    }
