use Rattle.std.proofs.Common.{◌∙◌, Some, Ok, Err, inl, refl, ap}
use Rattle.rudekpi_c.proofs.Resumption.{end_judged, left_out, not_resumed}
use Rattle.rudekpi_c.proofs.sessions.rudekpi_session_resume.Goals as goal

pub returns-in-Err : goal.returns-in-Err
returns-in-Err c =
    let found = c.in-Err.ensures in
    not_resumed c.args.bytes.now c.in-Err.fault _ _ _ (end_judged c.args.bytes.now (Err c.in-Err.fault) _ c.verdict_of.ensures found.ended found.accepts_runs found.names_damage) c.verdict_of.ensures found.ended c.status_of.ensures c.take.ensures.left

pub returns-in-Err-resume : goal.returns-in-Err-resume
returns-in-Err-resume c =
    let found = c.in-Ok.ensures in
    left_out c.args.bytes.now c.in-Ok.end _ _ (end_judged c.args.bytes.now (Ok c.in-Ok.end) _ c.verdict_of-2.ensures found.ended found.accepts_runs found.names_damage) c.verdict_of-2.ensures found.ended c.take.ensures.left

pub returns-in-Err-new : goal.returns-in-Err-new
returns-in-Err-new c =
    let found = c.in-Ok.ensures in
    left_out c.args.bytes.now c.in-Ok.end _ _ (end_judged c.args.bytes.now (Ok c.in-Ok.end) _ c.verdict_of-2.ensures found.ended found.accepts_runs found.names_damage) c.verdict_of-2.ensures found.ended c.take.ensures.left

pub returns : goal.returns
returns c =
    let found = c.in-Ok.ensures in (
      end_judged c.args.bytes.now (Ok c.in-Ok.end) _ c.verdict_of-2.ensures found.ended found.accepts_runs found.names_damage,
      inl (
        refl,
        record {
          session = c.in-Ok-resume.value;
          is = c.put.ensures ∙ ap (λ s. Some s) c.in-Ok-new.ensures.ok;
          end = c.in-Ok.end;
          ended = found.ended;
          counts = c.verdict_of-2.ensures;
          starts = c.in-Ok-resume.ensures;
        },
      ),
    )
