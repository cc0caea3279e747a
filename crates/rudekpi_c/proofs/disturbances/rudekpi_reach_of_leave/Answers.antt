use Rattle.rule_machine.specs.declared.event.Event.TheVariants.{Leave}
use Rattle.rudekpi_c.proofs.disturbances.rudekpi_reach_of_leave.Goals as goal

pub returns-clause-reached : goal.returns-clause-reached
returns-clause-reached c = c.reach_of.ensures.reached (Leave c.args.node) c.leave.ensures
