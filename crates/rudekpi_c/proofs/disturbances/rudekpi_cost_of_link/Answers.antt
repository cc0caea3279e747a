use Rattle.rule_machine.specs.declared.event.Event.TheVariants.{Link}
use Rattle.rudekpi_c.proofs.disturbances.rudekpi_cost_of_link.Goals as goal

pub returns-clause-costed : goal.returns-clause-costed
returns-clause-costed c = c.cost_of.ensures.costed (Link c.args.a c.args.b) c.link.ensures
