use Rattle.rule_machine.specs.declared.event.Event.TheVariants.{Point}
use Rattle.rudekpi_c.specs.CommandCalls.{optional_name}
use Rattle.rudekpi_c.proofs.disturbances.rudekpi_reach_of_point.Goals as goal

pub returns-clause-reached : goal.returns-clause-reached
returns-clause-reached c = c.reach_of.ensures.reached (Point c.args.node (optional_name c.args.target)) c.point.ensures
