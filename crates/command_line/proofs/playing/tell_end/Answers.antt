use Rattle.command_line.specs.WriterStates.{heard}
use Rattle.command_line.proofs.Storms.{plain_end}
use Rattle.command_line.proofs.playing.tell_end.Goals as goal

pub returns-in_default : goal.returns-in_default
returns-in_default g c =
    let faults = g.Faults.Write.contents in
    let told = c.storm_end.ensures in
    plain_end c.args.ended (faults c.args.faults.now.writer) (heard faults c.storm_end.new.faults) c.storm_end.result (told.told, told.whole) told.status
