use Rattle.script_run.proofs.Prelude.{progress, returned}
use Rattle.script_run.proofs.CarriedLines.{done_at_once, failed_at_once, drive_writes, scramble_writes}
use Rattle.script_run.proofs.runner.Run.follow.Goals as goal

pub returns-in-Drive-clause-ends : goal.returns-in-Drive-clause-ends
returns-in-Drive-clause-ends g c =
    let run = c.args.self.now.line in
    let after = c.take_turns.new.self.line in
    drive_writes g.R.Rules.table run.recorder.limit c.in-Drive.turns c.args.command.now _ (progress run.rules run.recorder run.text.items) (progress after.rules after.recorder after.text.items)
    (g.Out.Write.contents c.args.writer.now.writer) (g.Out.Write.contents c.take_turns.new.writer.writer) c.take_turns.result c.daemon_of_seed-daemon.ensures c.in-Drive.is c.take_turns.ensures.ends

pub returns-in-Scramble-clause-ends : goal.returns-in-Scramble-clause-ends
returns-in-Scramble-clause-ends g c =
    let run = c.args.self.now.line in
    let after = c.take_turns-in-Scramble.new.self.line in
    scramble_writes g.R.Rules.table run.recorder.limit c.in-Scramble.turns c.args.command.now _ (progress run.rules run.recorder run.text.items) (progress after.rules after.recorder after.text.items)
    (g.Out.Write.contents c.args.writer.now.writer) (g.Out.Write.contents c.take_turns-in-Scramble.new.writer.writer) c.take_turns-in-Scramble.result c.injector_of_seed-injector.ensures c.in-Scramble.is c.take_turns-in-Scramble.ensures.ends

pub returns-in_err-follow_at_once-in_default-clause-ends : goal.returns-in_err-follow_at_once-in_default-clause-ends
returns-in_err-follow_at_once-in_default-clause-ends g c =
    let run = c.args.self.now.line in
    let after = c.follow_at_once.new.self.line in
    failed_at_once g.R.Rules.table run.recorder.limit c.args.command.now (progress run.rules run.recorder run.text.items) (progress after.rules after.recorder after.text.items) _ _ c.follow_at_once.result c.from_residual.result c.follow_at_once.ensures.ends c.in_err-follow_at_once-in_default.was (returned _ _ c.from_residual.ensures.1)

pub returns-in_ok-follow_at_once-in_default-clause-ends : goal.returns-in_ok-follow_at_once-in_default-clause-ends
returns-in_ok-follow_at_once-in_default-clause-ends g c =
    let run = c.args.self.now.line in
    let after = c.follow_at_once.new.self.line in
    done_at_once g.R.Rules.table run.recorder.limit c.args.command.now (progress run.rules run.recorder run.text.items) (progress after.rules after.recorder after.text.items) _ c.follow_at_once.result c.follow_at_once.ensures.ends c.in_ok-follow_at_once-in_default.was
