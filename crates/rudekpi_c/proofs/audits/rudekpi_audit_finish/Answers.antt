use Rattle.std.proofs.Common.{◌∙◌, Some, sym, ap}
use Rattle.rudekpi_c.proofs.AuditCalls.{was_judged}
use Rattle.rudekpi_c.proofs.audits.rudekpi_audit_finish.Goals as goal

pub returns-clause-ended : goal.returns-clause-ended
returns-clause-ended c =
    was_judged c.into_inner.result c.verdict_of.result c.finish.result c.args.slot.now.handle.value (c.in-Some.ensures.some ∙ ap (λ a. Some a) (sym c.into_inner.ensures)) c.verdict_of.ensures
    c.finish.ensures.judged c.finish.ensures.accepts_runs c.finish.ensures.names_damage
