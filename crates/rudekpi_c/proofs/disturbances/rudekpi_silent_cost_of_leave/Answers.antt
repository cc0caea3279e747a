use Rattle.rule_machine.specs.declared.event.Event.TheVariants.{Leave}
use Rattle.rudekpi_c.proofs.disturbances.rudekpi_silent_cost_of_leave.Goals as goal

pub returns-clause-answers : goal.returns-clause-answers
returns-clause-answers c = c.silent_cost.ensures.answers (Leave c.args.node) c.leave.ensures
