use Rattle.rule_machine.specs.declared.event.Event.TheVariants.{Join}
use Rattle.rudekpi_c.proofs.disturbances.rudekpi_reach_of_join.Goals as goal

pub returns-clause-reached : goal.returns-clause-reached
returns-clause-reached c = c.reach_of.ensures.reached (Join c.args.node) c.join.ensures
