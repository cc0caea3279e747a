use Rattle.std.proofs.Common.{refl}
use Rattle.rule_machine.specs.declared.event.Event.TheVariants.{Status}
use Rattle.script_text.specs.declared.command.Command.TheVariants.{Tell}
use Rattle.rudekpi_c.proofs.StatusNumbers.{counted_of_call}
use Rattle.rudekpi_c.proofs.calls.rudekpi_status.Goals as goal

pub returns-clause-counted : goal.returns-clause-counted
returns-clause-counted c = counted_of_call _ _ _ _ _ (c.call-status.ensures (Tell Status) (tt, refl)) c.counted_of.ensures.counted
