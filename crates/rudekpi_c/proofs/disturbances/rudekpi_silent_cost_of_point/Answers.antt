use Rattle.rule_machine.specs.declared.event.Event.TheVariants.{Point}
use Rattle.rudekpi_c.specs.CommandCalls.{optional_name}
use Rattle.rudekpi_c.proofs.disturbances.rudekpi_silent_cost_of_point.Goals as goal

pub returns-clause-answers : goal.returns-clause-answers
returns-clause-answers c = c.silent_cost.ensures.answers (Point c.args.node (optional_name c.args.target)) c.point.ensures
