-- The fault of a run that stops at a line.
use Rattle.step_log.specs.declared.fault.RecordFault.TheVariants as record_fault
use Rattle.run_session.specs.declared.line_error.LineError.{LineError}
use Rattle.run_session.specs.declared.line_error.LineError.TheVariants as line
use Rattle.script_run.specs.declared.fault.RunFault.{RunFault}
use Rattle.script_run.specs.declared.fault.RunFault.TheVariants.{BadLine, LogFull, Memory}

abbrev pub fault_of : LineError → RunFault
fault_of (line.BadLine number) = BadLine number
fault_of (line.Record record_fault.LogFull) = LogFull
fault_of (line.Record record_fault.Memory) = Memory
