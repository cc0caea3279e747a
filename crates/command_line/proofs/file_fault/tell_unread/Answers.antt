use Rattle.std.proofs.KnownBytes.{Keeps-refl}
use Rattle.command_line.specs.WriterStates.{heard}
use Rattle.command_line.proofs.file_fault.tell_unread.Goals as goal

pub returns-clause-told : goal.returns-clause-told
returns-clause-told g c known =
    let told = c.tell-status.ensures in
    (heard g.Faults.Write.contents c.tell-status.new.faults, (told.status, Keeps-refl known, (told.told, told.whole)), c.add_note.ensures)
