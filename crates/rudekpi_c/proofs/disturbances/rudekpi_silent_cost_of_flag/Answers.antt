use Rattle.rule_machine.specs.declared.event.Event.TheVariants.{Flag}
use Rattle.rudekpi_c.proofs.disturbances.rudekpi_silent_cost_of_flag.Goals as goal

pub returns-clause-answers : goal.returns-clause-answers
returns-clause-answers c = c.silent_cost.ensures.answers (Flag c.args.node c.args.value) c.flag.ensures
