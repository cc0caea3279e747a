use Rattle.run_session.specs.Line.{SaysSome, progress}
use Rattle.line_text.specs.Parsing.{kept_if}
use Rattle.script_run.proofs.Prelude.{◌≡◌, [], Bool, true, false, refl, subst, arith, returned}
use Rattle.std.specs.Prelude.{MatchOption}
use Rattle.script_run.proofs.CarriedLines.{line_unread, line_empty, line_followed}
use Rattle.script_run.proofs.runner.Run.carry_out_line.Goals as goal

pub returns-in_err-read_command-clause-ends : goal.returns-in_err-read_command-clause-ends
returns-in_err-read_command-clause-ends g c =
    let run = c.args.self.now.line in
    line_unread g.R.Rules.table run.recorder.limit c.args.number c.args.line.now (progress run.rules run.recorder run.text.items) (g.Out.Write.contents c.args.writer.now.writer) _ c.from_residual.result c.in_err-read_command.ensures.fault
    (returned _ _ c.from_residual.ensures.1)

pub returns-then-not-branch-clause-ends : goal.returns-then-not-branch-clause-ends
returns-then-not-branch-clause-ends g c =
    let run = c.args.self.now.line in
    let line = c.args.line.now in
    let Reads : Bool → Type 0 = λ b. MatchOption (kept_if b c.read_command.new.command) (line ≡ []) (λ found. SaysSome line found) in
    let none : c.in_ok-read_command.field-0 ≡ false = grind (arith, c.if-not-branch.true) in
    line_empty g.R.Rules.table run.recorder.limit c.args.number line (progress run.rules run.recorder run.text.items) (g.Out.Write.contents c.args.writer.now.writer) (subst Reads none c.in_ok-read_command.ensures.command)

pub returns-clause-ends : goal.returns-clause-ends
returns-clause-ends g c =
    let run = c.args.self.now.line in
    let after = c.follow.new.self.line in
    let line = c.args.line.now in
    let Reads : Bool → Type 0 = λ b. MatchOption (kept_if b c.read_command.new.command) (line ≡ []) (λ found. SaysSome line found) in
    let some : c.in_ok-read_command.field-0 ≡ true = grind (arith, c.if-not-branch.false) in
    line_followed g.R.Rules.table run.recorder.limit c.args.number line c.read_command.new.command (progress run.rules run.recorder run.text.items) (progress after.rules after.recorder after.text.items)
    (g.Out.Write.contents c.args.writer.now.writer) (g.Out.Write.contents c.follow.new.writer.writer) c.follow.result c.follow.result (subst Reads some c.in_ok-read_command.ensures.command) c.follow.ensures.ends refl
