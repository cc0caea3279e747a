use Rattle.script_run.specs.Restarts.{options_at, restart_of}
use Rattle.command_line.specs.StormTexts.{IsAcceptedLog}
use Rattle.std.proofs.Common.{length}
use Rattle.command_line.proofs.Storms.{played_on, unopened_from}
use Rattle.command_line.proofs.playing_on.play_files_from.Goals as goal

pub returns-in-Ok : goal.returns-in-Ok
returns-in-Ok g c =
    let out = g.Out.Write.contents in
    played_on _ c.in-Ok.files.items (restart_of c.args.restart) (length c.args.names.now) (out c.args.writer.now.writer) (out c.resume_storm.new.writer.writer) c.resume_storm.result c.in-Ok.ensures.count c.resume_storm.ensures.outcome

pub returns-in-Err : goal.returns-in-Err
returns-in-Err g c =
    unopened_from (IsAcceptedLog (options_at (restart_of c.args.restart))) (restart_of c.args.restart) (length c.args.names.now) (g.Out.Write.contents c.args.writer.now.writer) c.in-Err.fault c.in-Err.ensures.fault
