use Rattle.std.specs.Io.KnownBytes.{Appends}
use Rattle.byte_streams.specs.PartialOutput.{AppendsBeginning}
use Rattle.script_text.specs.Script.{lines_of}
use Rattle.command_line.proofs.AcceptedOutcomes.{resumed_accepted, run_accepted}
use Rattle.command_line.proofs.accepted.outcomes_are_accepted.Goals as goal

pub returns-clause-run : goal.returns-clause-run
returns-clause-run c rules nodes present limit script old new result few within most ends =
    run_accepted rules nodes present limit (lines_of script) result (Appends old new) (AppendsBeginning old new) few within most ends

pub returns-clause-resumed : goal.returns-clause-resumed
returns-clause-resumed c first from limit script old new result is most ends =
    resumed_accepted first from limit (lines_of script) result (Appends old new) (AppendsBeginning old new) is most ends
