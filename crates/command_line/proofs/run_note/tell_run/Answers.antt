use Rattle.command_line.specs.WriterStates.{heard}
use Rattle.command_line.proofs.RunNotes.{line_alone}
use Rattle.command_line.proofs.run_note.tell_run.Goals as goal

pub returns-in_default-clause-told : goal.returns-in_default-clause-told
returns-in_default-clause-told g c =
    let faults = g.Faults.Write.contents in
    let told = c.tell.ensures in
    line_alone c.args.fault (faults c.args.faults.now.writer) (heard faults c.tell.new.faults) (told.told, told.whole)
