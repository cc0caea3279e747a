use Rattle.local_rule.proofs.Steps.{local_step}
use Rattle.local_rule.proofs.laws.local_moves_are_steps.Goals as goal

pub returns : goal.returns
returns c = local_step
