use Rattle.std.proofs.Common.{◌∙◌, Some, inl, refl, ap, subst}
use Rattle.run_session.specs.RunStart.{first_progress}
use Rattle.rudekpi_c.specs.Session.{IsNewSession}
use Rattle.rudekpi_c.proofs.sessions.rudekpi_session_new.Goals as goal

pub returns : goal.returns
returns c =
    inl (
      (c.if-rules-gt1.false, c.if-nodes-gt-MAX_NAME.false, c.if-present-nodes.false),
      refl,
      record {
        session = c.in-Ok.value;
        is = c.put.ensures ∙ ap (λ s. Some s) c.in-Ok-new.ensures.ok;
        starts = subst (λ r. IsNewSession (first_progress r c.args.nodes c.args.present) c.in-Ok.value) c.rules_named.ensures c.in-Ok.ensures;
      },
    )
