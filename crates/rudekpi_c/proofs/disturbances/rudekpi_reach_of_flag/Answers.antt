use Rattle.rule_machine.specs.declared.event.Event.TheVariants.{Flag}
use Rattle.rudekpi_c.proofs.disturbances.rudekpi_reach_of_flag.Goals as goal

pub returns-clause-reached : goal.returns-clause-reached
returns-clause-reached c = c.reach_of.ensures.reached (Flag c.args.node c.args.value) c.flag.ensures
