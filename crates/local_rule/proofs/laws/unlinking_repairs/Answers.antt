use Rattle.local_rule.proofs.Repairs.{unlink_repairs}
use Rattle.local_rule.proofs.laws.unlinking_repairs.Goals as goal

pub returns : goal.returns
returns c = unlink_repairs
