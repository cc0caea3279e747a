use Rattle.rule_machine.specs.declared.event.Event.TheVariants.{Flag}
use Rattle.rudekpi_c.proofs.disturbances.rudekpi_cost_of_flag.Goals as goal

pub returns-clause-costed : goal.returns-clause-costed
returns-clause-costed c = c.cost_of.ensures.costed (Flag c.args.node c.args.value) c.flag.ensures
