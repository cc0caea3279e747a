use Rattle.std.proofs.Common.{◌∙◌, Some, refl, sym, ap}
use Rattle.rudekpi_c.specs.declared.session.Session.{Session}
use Rattle.std.proofs.lemmas.Option.{none-some, same_Some}
use Rattle.rudekpi_c.proofs.RoundCalls.{log_told, rounds_told, rounds_untold}
use Rattle.rudekpi_c.proofs.rounds.rudekpi_rounds.Goals as goal

pub returns-in-None-found-clause-answers : goal.returns-in-None-found-clause-answers
returns-in-None-found-clause-answers c = rounds_untold c.args.slot.now.handle.value c.deref.result.now c.rounds-value.result (c.in-Some.ensures.some ∙ ap (λ (s : Session). Some s) (sym c.deref.ensures)) c.rounds-value.ensures.rounds c.in-None-found.is

pub returns-in-None-found-clause-exact : goal.returns-in-None-found-clause-exact
returns-in-None-found-clause-exact c session start log given counts =
    absurd (none-some _ (sym c.in-None-found.is ∙ log_told c.args.slot.now.handle.value c.deref.result.now c.rounds-value.result (c.in-Some.ensures.some ∙ ap (λ (s : Session). Some s) (sym c.deref.ensures)) c.rounds-value.ensures.rounds session start log given counts))

pub returns-clause-answers : goal.returns-clause-answers
returns-clause-answers c = rounds_told c.args.slot.now.handle.value c.deref.result.now c.rounds-value.result c.in-Some-found.value (c.in-Some.ensures.some ∙ ap (λ (s : Session). Some s) (sym c.deref.ensures)) c.rounds-value.ensures.rounds c.in-Some-found.is c.rounds-value.ensures.some

pub returns-clause-exact : goal.returns-clause-exact
returns-clause-exact c session start log given counts =
    (refl, same_Some _ _ (sym c.in-Some-found.is ∙ log_told c.args.slot.now.handle.value c.deref.result.now c.rounds-value.result (c.in-Some.ensures.some ∙ ap (λ (s : Session). Some s) (sym c.deref.ensures)) c.rounds-value.ensures.rounds session start log given counts))
