use Rattle.rule_machine.specs.declared.event.Event.TheVariants.{Join}
use Rattle.rudekpi_c.proofs.disturbances.rudekpi_silent_cost_of_join.Goals as goal

pub returns-clause-answers : goal.returns-clause-answers
returns-clause-answers c = c.silent_cost.ensures.answers (Join c.args.node) c.join.ensures
