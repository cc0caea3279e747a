use Rattle.rule_machine.specs.declared.event.Event.TheVariants.{Point}
use Rattle.rudekpi_c.specs.CommandCalls.{optional_name}
use Rattle.rudekpi_c.proofs.disturbances.rudekpi_cost_of_point.Goals as goal

pub returns-clause-costed : goal.returns-clause-costed
returns-clause-costed c = c.cost_of.ensures.costed (Point c.args.node (optional_name c.args.target)) c.point.ensures
