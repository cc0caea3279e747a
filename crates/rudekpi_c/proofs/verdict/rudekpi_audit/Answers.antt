use Rattle.rudekpi_c.proofs.AuditVerdicts.{judged_as}
use Rattle.rudekpi_c.proofs.verdict.rudekpi_audit.Goals as goal

pub returns : goal.returns
returns c = judged_as c.args.bytes.now c.audit_bytes.result c.verdict_of.result c.verdict_of.ensures c.audit_bytes.ensures.judged c.audit_bytes.ensures.accepts_runs c.audit_bytes.ensures.names_damage
