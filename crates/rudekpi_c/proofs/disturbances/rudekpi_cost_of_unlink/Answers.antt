use Rattle.rule_machine.specs.declared.event.Event.TheVariants.{Unlink}
use Rattle.rudekpi_c.proofs.disturbances.rudekpi_cost_of_unlink.Goals as goal

pub returns-clause-costed : goal.returns-clause-costed
returns-clause-costed c = c.cost_of.ensures.costed (Unlink c.args.a c.args.b) c.unlink.ensures
