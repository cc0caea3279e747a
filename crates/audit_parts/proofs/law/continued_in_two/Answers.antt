use Rattle.audit_parts.proofs.ContinuedRuns.{accepted_is_continued}
use Rattle.audit_parts.proofs.law.continued_in_two.Goals as goal

pub returns-clause-only : goal.returns-clause-only
returns-clause-only c = accepted_is_continued
