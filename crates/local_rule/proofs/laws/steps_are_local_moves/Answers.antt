use Rattle.local_rule.proofs.Writes.{step_is_local}
use Rattle.local_rule.proofs.laws.steps_are_local_moves.Goals as goal

pub returns : goal.returns
returns c = step_is_local
