use Rattle.rule_machine.specs.declared.event.Event.TheVariants.{Join}
use Rattle.rudekpi_c.proofs.disturbances.rudekpi_cost_of_join.Goals as goal

pub returns-clause-costed : goal.returns-clause-costed
returns-clause-costed c = c.cost_of.ensures.costed (Join c.args.node) c.join.ensures
