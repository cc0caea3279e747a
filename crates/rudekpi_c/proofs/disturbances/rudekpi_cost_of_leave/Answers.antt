use Rattle.rule_machine.specs.declared.event.Event.TheVariants.{Leave}
use Rattle.rudekpi_c.proofs.disturbances.rudekpi_cost_of_leave.Goals as goal

pub returns-clause-costed : goal.returns-clause-costed
returns-clause-costed c = c.cost_of.ensures.costed (Leave c.args.node) c.leave.ensures
