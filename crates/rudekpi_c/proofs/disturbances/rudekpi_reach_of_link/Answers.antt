use Rattle.rule_machine.specs.declared.event.Event.TheVariants.{Link}
use Rattle.rudekpi_c.proofs.disturbances.rudekpi_reach_of_link.Goals as goal

pub returns-clause-reached : goal.returns-clause-reached
returns-clause-reached c = c.reach_of.ensures.reached (Link c.args.a c.args.b) c.link.ensures
