use Rattle.run_session.specs.Line.{progress}
use Rattle.script_run.proofs.Prelude.{◌≡◌, Tell, arith}
use Rattle.rule_machine.specs.declared.event.Event.TheVariants.{Step}
use Rattle.script_run.proofs.CarriedLines.{ended_at_once, stepped_at_once}
use Rattle.script_run.proofs.runner.Run.follow_at_once.Goals as goal

pub returns-in-Some-clause-ends : goal.returns-in-Some-clause-ends
returns-in-Some-clause-ends g c =
    let run = c.args.self.now.line in
    let after = c.log_step.new.self.line in
    let is : c.args.command.now ≡ Tell (Step c.in-Tell-Step.choice) = grind (arith, c.in-Tell-Step.is) in
    stepped_at_once g.R.Rules.table run.recorder.limit c.args.command.now (Step c.in-Tell-Step.choice) (progress run.rules run.recorder run.text.items) (progress after.rules after.recorder after.text.items) c.log_step.result c.log_step.ensures.ends is

pub returns-clause-ends : goal.returns-clause-ends
returns-clause-ends g c =
    let run = c.args.self.now.line in
    let after = c.follow.new.self in
    ended_at_once g.R.Rules.table run.recorder.limit c.args.command.now (progress run.rules run.recorder run.text.items) (progress after.rules after.recorder after.text.items) c.follow.result c.follow.ensures.ends
