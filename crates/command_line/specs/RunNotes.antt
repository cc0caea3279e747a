-- What is reported of a run: its fault's line, and after a bad line perhaps a second line with the reason.
use Rattle.std.specs.Prelude.{◌⊎◌, ℕ, List, Result, Ok, Err}
use Rattle.std.specs.Io.KnownBytes.{Keeps}
use Rattle.line_reasons.specs.ReasonLine.{IsReasonLine}
use Rattle.script_run.specs.declared.fault.RunFault.{RunFault}
use Rattle.script_run.specs.declared.fault.RunFault.TheVariants.{BadLine}
use Rattle.command_line.specs.FaultText.{run_fault_line}
use Rattle.command_line.specs.WriterStates.{WrittenBytes, WriterState, WritesLine}

-- one line is added that says why a line is no command; or nothing is
abbrev pub AddsReason : WrittenBytes → WriterState → Type 0
AddsReason before after = Keeps before after.got ⊎ ((line : List ℕ) × IsReasonLine line × WritesLine before after line)

-- the fault's line is written, and perhaps a reason
abbrev pub TellsBadLine : RunFault → WrittenBytes → WriterState → Type 0
TellsBadLine fault before after = (mid : WriterState) × WritesLine before mid (run_fault_line fault) × AddsReason mid.got after

-- the fault's line is written; after that of a bad line perhaps a reason
abbrev pub TellsRunFault : RunFault → WrittenBytes → WriterState → Type 0
TellsRunFault (BadLine line) before after = TellsBadLine (BadLine line) before after
TellsRunFault fault before after = WritesLine before after (run_fault_line fault)

-- what was written of the end of a run; nothing if there is no fault
abbrev pub TellsRunEnd : Result Unit RunFault → WrittenBytes → WriterState → Type 0
TellsRunEnd (Ok done) before after = Keeps before after.got
TellsRunEnd (Err fault) before after = TellsRunFault fault before after
