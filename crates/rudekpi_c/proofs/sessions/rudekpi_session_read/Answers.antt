use Rattle.std.proofs.Common.{◌∙◌, Some, sym, ap}
use Rattle.rudekpi_c.specs.declared.session.Session.{Session}
use Rattle.rudekpi_c.specs.Session.{stands}
use Rattle.rudekpi_c.proofs.TextTransfer.{handed_none, handed_all}
use Rattle.rudekpi_c.proofs.sessions.rudekpi_session_read.Goals as goal

pub returns-then-len-out : goal.returns-then-len-out
returns-then-len-out c = handed_none _ c.in-Some.ensures.some c.put.ensures (c.text-text.ensures ∙ ap (λ s. (stands s).text) c.deref.ensures) c.if-len-out.true

pub returns : goal.returns
returns c =
    let same = c.deref_mut.ensures.value in
    handed_all _ (c.in-Some.ensures.some ∙ ap (λ (s : Session). Some s) (sym same)) c.put-2.ensures c.settle.ensures.same c.settle.ensures.stands
    (c.text-text.ensures ∙ ap (λ (s : Session). (stands s).text) (c.deref.ensures ∙ sym same)) c.copy_from_slice.ensures.after c.if-len-out.false
