use Rattle.std.proofs.Common.{◌∙◌, sym, ap, subst}
use Rattle.rudekpi_c.specs.declared.session.Session.{Session}
use Rattle.rudekpi_c.specs.Session.{stands, with_text_if}
use Rattle.rudekpi_c.specs.Slot.{IsPutBack}
use Rattle.rudekpi_c.proofs.slot.Slot.put_back.Goals as goal

pub returns : goal.returns
returns c =
    let s = c.deref_mut.result.now in
    let same = c.deref_mut.ensures.value in
    subst (λ (x : Session). IsPutBack x c.put.new.self.handle.value) same (record {
      machine = c.settle.new.self;
      is = c.put.ensures;
      same = c.settle.ensures.same;
      stands_is = c.settle.ensures.stands ∙ ap (λ (x : Session). with_text_if x.keeps (stands s)) (c.deref.ensures ∙ sym same);
    })
