use Rattle.command_line.specs.WriterStates.{heard}
use Rattle.command_line.proofs.run_note.tell_bad_line.Goals as goal

pub returns-clause-told : goal.returns-clause-told
returns-clause-told g c =
    let told = c.tell-status.ensures in
    (heard g.Faults.Write.contents c.tell-status.new.faults, (told.told, told.whole), c.write_reason.ensures)
