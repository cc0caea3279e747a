-- What is reported of a run.
use Rattle.std.proofs.Common.{inl}
use Rattle.std.proofs.KnownBytes.{Keeps-refl}
use Rattle.script_run.specs.declared.fault.RunFault.{RunFault}
use Rattle.script_run.specs.declared.fault.RunFault.TheVariants.{BadLine, LogFull, Read, Write, Memory, Pool}
use Rattle.command_line.specs.FaultText.{run_fault_line}
use Rattle.command_line.specs.RunNotes.{TellsRunFault}
use Rattle.command_line.specs.WriterStates.{WriterState, WrittenBytes, WritesLine}

-- the fault's line alone
pub line_alone : (fault : RunFault) (before : WrittenBytes) (after : WriterState) → WritesLine before after (run_fault_line fault) → TellsRunFault fault before after
line_alone (BadLine line) before after told = (after, told, inl (Keeps-refl after.got))
line_alone LogFull before after told = told
line_alone Read before after told = told
line_alone Write before after told = told
line_alone Memory before after told = told
line_alone (Pool why) before after told = told
