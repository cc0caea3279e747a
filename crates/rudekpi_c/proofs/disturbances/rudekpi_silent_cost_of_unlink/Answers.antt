use Rattle.rule_machine.specs.declared.event.Event.TheVariants.{Unlink}
use Rattle.rudekpi_c.proofs.disturbances.rudekpi_silent_cost_of_unlink.Goals as goal

pub returns-clause-answers : goal.returns-clause-answers
returns-clause-answers c = c.silent_cost.ensures.answers (Unlink c.args.a c.args.b) c.unlink.ensures
