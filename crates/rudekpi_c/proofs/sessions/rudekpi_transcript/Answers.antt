use Rattle.std.proofs.Common.{◌∙◌, Option, Some, refl, sym, ap, subst}
use Rattle.rudekpi_c.specs.declared.session.Session.{Session}
use Rattle.rudekpi_c.specs.SessionQuestions.{AnswersKeep}
use Rattle.rudekpi_c.proofs.sessions.rudekpi_transcript.Goals as goal

pub returns : goal.returns
returns c =
    let s = c.deref_mut.result.now in
    let back = c.put_back.ensures in
    subst (λ (o : Option Session). AnswersKeep c.args.keeps 0 o c.put_back.new.self.handle.value) (ap (λ (x : Session). Some x) c.deref_mut.ensures.value ∙ sym c.in-Some.ensures.some) (
      refl,
      record {
        t = record s { machine = back.machine; keeps = c.args.keeps };
        is = back.is;
        rules = back.same.0;
        limit = back.same.1;
        lines = refl;
        answer = refl;
        keeps_is = refl;
        stands_is = back.stands_is;
      },
    )
