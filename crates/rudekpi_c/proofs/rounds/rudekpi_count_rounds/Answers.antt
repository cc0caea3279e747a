use Rattle.std.proofs.Common.{◌∙◌, Some, sym, ap}
use Rattle.rudekpi_c.specs.declared.session.Session.{Session}
use Rattle.rudekpi_c.proofs.RoundCalls.{began, not_begun}
use Rattle.rudekpi_c.proofs.rounds.rudekpi_count_rounds.Goals as goal

pub returns : goal.returns
returns c = began c.deref_mut.result.now c.count_rounds-value.new.self (c.in-Some.ensures.some ∙ ap (λ (s : Session). Some s) (sym c.deref_mut.ensures.value)) c.put.ensures c.count_rounds-value.ensures.same c.in-Ok.ensures.ok

pub returns-in-Err : goal.returns-in-Err
returns-in-Err c = not_begun c.deref_mut.result.now c.count_rounds-value.new.self (c.in-Some.ensures.some ∙ ap (λ (s : Session). Some s) (sym c.deref_mut.ensures.value)) c.put.ensures c.in-Err.ensures.err
