use Rattle.audit_parts.proofs.PartLaws.{second_damage_moves}
use Rattle.audit_parts.proofs.law.damaged_in_two.Goals as goal

pub returns-clause-second : goal.returns-clause-second
returns-clause-second c = second_damage_moves
