use Rattle.run_session.specs.Line.{progress}
use Rattle.script_run.proofs.Prelude.{returned}
use Rattle.script_run.proofs.CarriedLines.{line_unkept}
use Rattle.script_run.proofs.runner.Run.carry_out_ended.Goals as goal

pub returns-in_err-extend_from_slice-clause-ends : goal.returns-in_err-extend_from_slice-clause-ends
returns-in_err-extend_from_slice-clause-ends g c =
    let run = c.args.self.now.line in
    line_unkept g.R.Rules.table run.recorder.limit _ _ (progress run.rules run.recorder run.text.items) (g.Out.Write.contents c.args.writer.now.writer) c.from_residual.result (returned _ _ c.from_residual.ensures.1)
