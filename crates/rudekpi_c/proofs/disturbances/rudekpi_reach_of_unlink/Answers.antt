use Rattle.rule_machine.specs.declared.event.Event.TheVariants.{Unlink}
use Rattle.rudekpi_c.proofs.disturbances.rudekpi_reach_of_unlink.Goals as goal

pub returns-clause-reached : goal.returns-clause-reached
returns-clause-reached c = c.reach_of.ensures.reached (Unlink c.args.a c.args.b) c.unlink.ensures
