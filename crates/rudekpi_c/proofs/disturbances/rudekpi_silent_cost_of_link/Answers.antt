use Rattle.rule_machine.specs.declared.event.Event.TheVariants.{Link}
use Rattle.rudekpi_c.proofs.disturbances.rudekpi_silent_cost_of_link.Goals as goal

pub returns-clause-answers : goal.returns-clause-answers
returns-clause-answers c = c.silent_cost.ensures.answers (Link c.args.a c.args.b) c.link.ensures
