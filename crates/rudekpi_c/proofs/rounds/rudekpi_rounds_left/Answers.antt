use Rattle.std.proofs.Common.{◌∙◌, Some, sym, ap}
use Rattle.rudekpi_c.specs.declared.session.Session.{Session}
use Rattle.rudekpi_c.proofs.RoundCalls.{left_told, left_untold}
use Rattle.rudekpi_c.proofs.rounds.rudekpi_rounds_left.Goals as goal

pub returns-in-None-found-clause-answers : goal.returns-in-None-found-clause-answers
returns-in-None-found-clause-answers c = left_untold c.args.slot.now.handle.value c.deref_mut.result.now c.rounds_left-value.result (c.in-Some.ensures.some ∙ ap (λ (s : Session). Some s) (sym c.deref_mut.ensures.value)) c.rounds_left-value.ensures.left c.in-None-found.is

pub returns-clause-answers : goal.returns-clause-answers
returns-clause-answers c = left_told c.args.slot.now.handle.value c.deref_mut.result.now c.rounds_left-value.result c.in-Some-found.value (c.in-Some.ensures.some ∙ ap (λ (s : Session). Some s) (sym c.deref_mut.ensures.value)) c.rounds_left-value.ensures.left c.in-Some-found.is
