use Rattle.std.proofs.Common.{Err, refl}
use Rattle.storm_runner.specs.declared.fault.StormFault.TheVariants.{Read}
use Rattle.command_line.specs.WriterStates.{heard}
use Rattle.command_line.proofs.Storms.{named_end, plain_end}
use Rattle.command_line.proofs.playing.tell_unread_script.Goals as goal

pub returns-in-Some : goal.returns-in-Some
returns-in-Some g c =
    let faults = g.Faults.Write.contents in
    let told = c.storm_end-status.ensures in
    named_end (Err Read) c.in-Some.name.now (faults c.args.faults.now.writer) (heard faults c.storm_end-status.new.faults) (heard faults c.add_note.new.faults) c.storm_end-status.result refl (told.told, told.whole) c.add_note.ensures told.status

pub returns-in_default : goal.returns-in_default
returns-in_default g c =
    let faults = g.Faults.Write.contents in
    let told = c.storm_end-status.ensures in
    plain_end (Err Read) (faults c.args.faults.now.writer) (heard faults c.storm_end-status.new.faults) c.storm_end-status.result (told.told, told.whole) told.status
