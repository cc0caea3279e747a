use Rattle.script_run.specs.RunOptions.{asked_of}
use Rattle.std.proofs.Common.{length}
use Rattle.command_line.proofs.Storms.{played, unopened}
use Rattle.command_line.proofs.playing.play_files.Goals as goal

pub returns-in-Ok : goal.returns-in-Ok
returns-in-Ok g c =
    let out = g.Out.Write.contents in
    played _ c.in-Ok.files.items (asked_of c.args.options.now) (length c.args.names.now) (out c.args.writer.now.writer) (out c.storm.new.writer.writer) c.storm.result c.args.options.now.within c.in-Ok.ensures.count c.storm.ensures.outcome

pub returns-in-Err : goal.returns-in-Err
returns-in-Err g c =
    unopened (asked_of c.args.options.now) (length c.args.names.now) (g.Out.Write.contents c.args.writer.now.writer) c.in-Err.fault c.in-Err.ensures.fault
