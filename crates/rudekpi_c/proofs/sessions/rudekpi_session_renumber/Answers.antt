use Rattle.std.proofs.Common.{◌∙◌, Some, inl, sym, ap}
use Rattle.rudekpi_c.specs.declared.session.Session.{Session}
use Rattle.rudekpi_c.specs.Renumbering.{length_if}
use Rattle.rudekpi_c.proofs.Renumbering.{was_renumbered, was_not_renumbered}
use Rattle.rudekpi_c.proofs.sessions.rudekpi_session_renumber.Goals as goal

pub returns-in-Err : goal.returns-in-Err
returns-in-Err c =
    inl (was_not_renumbered c.deref_mut.result.now c.renumber-done.new.self (c.in-Some.ensures.some ∙ ap (λ (s : Session). Some s) (sym c.deref_mut.ensures.value)) c.renumber-done.ensures.same c.put_back.ensures c.in-Err.ensures.err)

pub returns : goal.returns
returns c =
    inl (was_renumbered c.deref_mut.result.now c.renumber-done.new.self (c.in-Some.ensures.some ∙ ap (λ (s : Session). Some s) (sym c.deref_mut.ensures.value)) c.renumber-done.ensures.same c.put_back.ensures c.in-Ok.ensures.ok
    (c.length_if.ensures ∙ ap (λ (s : Session). length_if s.keeps c.in-Ok.value) c.deref.ensures ∙ ap (length_if c.deref_mut.result.now.keeps) c.in-Ok.ensures.ended))
