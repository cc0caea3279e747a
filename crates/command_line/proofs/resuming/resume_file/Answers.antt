use Rattle.command_line.specs.WriterStates.{heard}
use Rattle.command_line.proofs.ResumedRuns.{opened, unopened}
use Rattle.command_line.proofs.resuming.resume_file.Goals as goal

pub returns-in-Ok-clause-resumed : goal.returns-in-Ok-clause-resumed
returns-in-Ok-clause-resumed g c =
    let out = g.Out.Write.contents in
    let faults = g.Faults.Write.contents in
    opened (g.In.Read.remaining c.args.reader.now.reader) _ c.args.file.now (out c.args.writer.now.writer) (out c.resume_opened.new.writer.writer) (faults c.args.faults.now.writer) (heard faults c.resume_opened.new.faults) c.resume_opened.result
    c.resume_opened.ensures.resumed

pub returns-in-Err-clause-resumed : goal.returns-in-Err-clause-resumed
returns-in-Err-clause-resumed g c =
    let out = g.Out.Write.contents c.args.writer.now.writer in
    let faults = g.Faults.Write.contents in
    unopened (g.In.Read.remaining c.args.reader.now.reader) c.args.file.now out out (faults c.args.faults.now.writer) (heard faults c.tell_unread.new.faults) c.tell_unread.result
    (c.tell_unread.ensures.told out)
