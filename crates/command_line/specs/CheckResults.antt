-- The check of a transcript.
use Rattle.std.specs.Prelude.{ℕ, List, Option, Result, Ok, Err}
use Rattle.std.specs.Io.KnownBytes.{Appends, Keeps}
use Rattle.byte_streams.specs.PartialOutput.{AppendsBeginning}
use Rattle.script_run.specs.declared.fault.RunFault.{RunFault}
use Rattle.script_run.specs.declared.fault.RunFault.TheVariants.{BadLine, LogFull, Read, Write, Memory, Pool}
use Rattle.auditor.specs.declared.fault.AuditFault.TheVariants as fault
use Rattle.auditor.specs.declared.fault.AuditFault.{AuditFault}
use Rattle.auditor.specs.declared.summary.Summary.{Summary}
use Rattle.auditor.specs.AcceptedRuns.{IsAccepted}
use Rattle.auditor.specs.Damage.{IsDamage}
use Rattle.command_line.specs.declared.verdict.CheckEnd.{CheckEnd}
use Rattle.command_line.specs.declared.verdict.CheckEnd.TheVariants.{Accepted, Refused}
use Rattle.command_line.specs.VerdictText.{verdict_line}

-- The bytes are the transcript of a run with these counts, or have this damage; after a failed read or
-- without memory there is no verdict. `one_verdict` proves that there is at most one.
abbrev pub IsVerdict : List ℕ → CheckEnd → Type 0
IsVerdict bytes (Accepted counted) = IsAccepted bytes counted
IsVerdict bytes (Refused f) = IsDamage bytes f

-- the verdict of an audit's result
abbrev pub check_result : Result Summary AuditFault → Result CheckEnd RunFault
check_result (Ok counted) = Ok (Accepted counted)
check_result (Err fault.Read) = Err Read
check_result (Err fault.Memory) = Err Memory
check_result (Err f) = Ok (Refused f)

-- what was written: the verdict's line, or a beginning of that line if a write failed, else nothing
abbrev pub TellsVerdict : Option (List ℕ) → Option (List ℕ) → Result CheckEnd RunFault → Type 0
TellsVerdict old new (Ok end) = Appends old new (verdict_line end)
TellsVerdict old new (Err Write) = (end : CheckEnd) × AppendsBeginning old new (verdict_line end)
TellsVerdict old new (Err Read) = Keeps old new
TellsVerdict old new (Err Memory) = Keeps old new
TellsVerdict old new (Err LogFull) = ⊥
TellsVerdict old new (Err (BadLine line)) = ⊥
TellsVerdict old new (Err (Pool why)) = ⊥

-- the exit status of a verdict
abbrev pub verdict_status : CheckEnd → ℕ
verdict_status (Accepted counted) = 0
verdict_status (Refused f) = 1
