use Rattle.std.proofs.Common.{◌∙◌, Some, inr, refl, sym, ap, ap₂, arith}
use Rattle.rudekpi_c.specs.declared.session.Session.{Session}
use Rattle.rudekpi_c.specs.Session.{stands}
use Rattle.rudekpi_c.specs.ReplyNumbers.{told_of}
use Rattle.rudekpi_c.proofs.calls.fail_memory.Goals as goal

pub returns : goal.returns
returns c event good =
    let s = c.deref_mut.result.now in
    let back = c.put_back.ensures in
    let none = c.unanswered.ensures in
    inr (inr (
      good,
      record {
        s = s;
        t = record s { machine = back.machine; answer = c.unanswered.result };
        was = c.in-Some.ensures.some ∙ ap (λ (x : Session). Some x) (sym c.deref_mut.ensures.value);
        is = back.is;
        goes_on = record { rules = back.same.0; limit = back.same.1; keeps = refl };
        lines = refl;
        after = stands s;
        follows = inr (inr (refl, refl, none.number, none.reply));
        silent = λ zero. absurd (omega (arith, zero));
        stands_is = back.stands_is;
        told_is = c.nothing.ensures ∙ sym (ap₂ told_of none.number none.reply);
      },
    ))
