use Rattle.audit_parts.proofs.PartLaws.{parts_are_accepted}
use Rattle.audit_parts.proofs.law.accepted_in_two.Goals as goal

pub returns-clause-parts : goal.returns-clause-parts
returns-clause-parts c = parts_are_accepted
