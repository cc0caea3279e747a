use Rattle.std.proofs.Common.{◌≡◌, Bor, Err, List, length, map, ℕ}
use Rattle.std.proofs.lemmas.List.{length-map}
use Rattle.cli_args.specs.TaskWords.{resumed_storm_of}
use Rattle.script_run.specs.Restarts.{restart_of}
use Rattle.command_line.specs.WriterStates.{heard}
use Rattle.command_line.proofs.ResumedRuns.{stormed_on}
use Rattle.command_line.proofs.playing_on.resume_storm_opened.Goals as goal

pub returns-in-Ok-clause-resumed : goal.returns-in-Ok-clause-resumed
returns-in-Ok-clause-resumed g c =
    let out = g.Out.Write.contents in
    let faults = g.Faults.Write.contents in
    let names = length-map c.args.words.now.scripts.items (λ (s : Bor (List ℕ)). s.now) in
    let same = c.deref.ensures.value in
    let count : length c.deref.result.now ≡ length (map (λ (s : Bor (List ℕ)). s.now) c.args.words.now.scripts.items) = cc in
    stormed_on (g.Opened.Read.remaining c.args.opened) c.in-Ok.ensures.audited.0 c.in-Ok.end (resumed_storm_of c.args.words.now) (restart_of c.storm_restart-restart.result) (length c.deref.result.now)
    (out c.args.writer.now.writer) (out c.play_files_from-ended.new.writer.writer) (faults c.args.faults.now.writer) (heard faults c.tell_end.new.faults) c.play_files_from-ended.result.0 c.tell_end.result
    c.in-Ok.ensures.audited.1 c.in-Ok.ensures.goes_on c.storm_restart-restart.ensures count c.play_files_from-ended.ensures c.tell_end.ensures

pub returns-in-Err-clause-resumed : goal.returns-in-Err-clause-resumed
returns-in-Err-clause-resumed g c =
    let out = g.Out.Write.contents c.args.writer.now.writer in
    (c.in-Err.ensures.audited.0, Err c.in-Err.fault, c.in-Err.ensures.audited.1, c.refuse_file.ensures.told out)
