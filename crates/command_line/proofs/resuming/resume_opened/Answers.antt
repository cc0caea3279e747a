use Rattle.script_run.specs.Restarts.{restarted}
use Rattle.command_line.specs.WriterStates.{heard}
use Rattle.command_line.proofs.ResumedRuns.{refused, went_on}
use Rattle.command_line.proofs.resuming.resume_opened.Goals as goal

pub returns-in-Ok-clause-resumed : goal.returns-in-Ok-clause-resumed
returns-in-Ok-clause-resumed g c =
    let out = g.Out.Write.contents in
    let faults = g.Faults.Write.contents in
    let restart = c.restart_at.result in
    went_on (g.In.Read.remaining c.args.reader.now.reader) (g.Opened.Read.remaining c.args.opened) c.in-Ok.ensures.audited.0 c.in-Ok.end restart.rules restart.limit (restarted restart) c.args.file.now
    (out c.args.writer.now.writer) (out c.run_from.new.writer.writer) (faults c.args.faults.now.writer) (heard faults c.run_from.new.faults) c.run_from.result
    c.in-Ok.ensures.audited.1 c.in-Ok.ensures.goes_on c.restart_at.ensures.rules c.restart_at.ensures.limit c.restart_at.ensures.start c.run_from.ensures.outcome

pub returns-in-Err-clause-resumed : goal.returns-in-Err-clause-resumed
returns-in-Err-clause-resumed g c =
    let out = g.Out.Write.contents c.args.writer.now.writer in
    let faults = g.Faults.Write.contents in
    refused (g.In.Read.remaining c.args.reader.now.reader) (g.Opened.Read.remaining c.args.opened) c.in-Err.ensures.audited.0 c.in-Err.fault c.args.file.now out out (faults c.args.faults.now.writer) (heard faults c.refuse_file.new.faults) c.refuse_file.result
    c.in-Err.ensures.audited.1 (c.refuse_file.ensures.told out)
