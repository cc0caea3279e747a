use Rattle.std.proofs.Common.{◌∙◌, Option, Some, sym, ap, subst}
use Rattle.script_text.specs.declared.command.Command.{Command}
use Rattle.script_text.specs.Command.{IsCommand}
use Rattle.std.specs.Prelude.{SomeIff}
use Rattle.rudekpi_c.specs.declared.session.Session.{Session}
use Rattle.rudekpi_c.specs.CommandCalls.{AnswersCommand, command_status}
use Rattle.rudekpi_c.specs.ReplyNumbers.{told_of}
use Rattle.rudekpi_c.proofs.CommandCalls.{was_called}
use Rattle.rudekpi_c.proofs.calls.call.Goals as goal

pub returns : goal.returns
returns c asked given =
    let both = subst (λ (o : Option Command). SomeIff o (IsCommand asked) asked) c.in-Some.is given in
    let good = subst IsCommand (sym both.1) both.0 in
    let did = c.follow-done.ensures in
    subst (λ (k : Command). AnswersCommand k c.status_of-status.result c.of.result c.args.slot.now.handle.value c.put_back.new.self.handle.value) both.1
    (was_called c.follow-done.result c.deref_mut.result.now c.follow-done.new.self good (c.in-Some-take.ensures.some ∙ ap (λ (s : Session). Some s) (sym c.deref_mut.ensures.value))
    did.ends did.silent did.number did.reply did.same did.lines did.keeps c.put_back.ensures
    (c.status_of-status.ensures ∙ ap (λ (s : Session). command_status s.answer.reply c.follow-done.result) c.deref.ensures)
    (c.of.ensures ∙ ap (λ (s : Session). told_of s.answer.seq s.answer.reply) c.deref-2.ensures))
