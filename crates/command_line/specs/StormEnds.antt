-- How a storm ends: what the writers have, and the exit status.
use Rattle.std.specs.Prelude.{◌≡◌, ◌<◌, ℕ, List, length, Result, Err}
use Rattle.script_run.specs.Restarts.{RestartView}
use Rattle.script_run.specs.RunOptions.{OptionsView}
use Rattle.step_log.specs.RetainedLogs.{RetainedLog}
use Rattle.storm_runner.specs.declared.fault.StormFault.{StormFault}
use Rattle.storm_runner.specs.declared.fault.StormFault.TheVariants.{Read, Memory}
use Rattle.storm_runner.specs.FaultText.{end_line}
use Rattle.storm_runner.specs.Outcome.{IsResumedStorm, IsStormOutcome, opening_start, resumed_start}
use Rattle.storm_runner.specs.Status.{end_status}
use Rattle.command_line.specs.StormTexts.{IsAcceptedLog, WritesAccepted}
use Rattle.command_line.specs.FileNotes.{AddsNote}
use Rattle.command_line.specs.WriterStates.{WrittenBytes, WriterState, WritesLine}

-- one of these files cannot be opened, or memory ran out when one was open
abbrev pub FailsToOpen : ℕ → StormFault → Type 0
FailsToOpen files Read = 0 < files
FailsToOpen files Memory = 0 < files
FailsToOpen files _ = ⊥

-- The storm of this many scripts ended in one of the ways in which a storm may; nothing is said of their
-- texts. The auditor accepts what was written, and counts the entries of the kept log; if the writer failed, it
-- accepts a text that begins so.
abbrev pub EndsStorm : OptionsView → ℕ → WrittenBytes → WrittenBytes → Result Unit StormFault → Type 0
EndsStorm options scripts old new ended = (texts : List WrittenBytes) × (length texts ≡ scripts) × IsStormOutcome options texts old new ended × WritesAccepted (IsAcceptedLog options) (opening_start options) texts old new ended

-- after a failed read a line may name the file that is not read
abbrev pub MayAddNote : Result Unit StormFault → WriterState → WriterState → Type 0
MayAddNote (Err Read) mid after = (file : List ℕ) × AddsNote file mid.got after
MayAddNote ended mid after = mid ≡ after

-- the storm's end was reported, and the exit status fits
abbrev pub TellsStormEnd : Result Unit StormFault → WrittenBytes → WriterState → ℕ → Type 0
TellsStormEnd ended before after status =
    (mid : WriterState) × WritesLine before mid (end_line ended) × MayAddNote ended mid after × (status ≡ end_status ended)

-- the storm ended, and its end was reported
abbrev pub PlaysStorm : OptionsView → ℕ → WrittenBytes → WrittenBytes → WrittenBytes → WriterState → ℕ → Type 0
PlaysStorm options scripts old new before after status =
    (ended : Result Unit StormFault) × EndsStorm options scripts old new ended × TellsStormEnd ended before after status

-- the same of a storm that goes on, whose kept log is accepted so
abbrev pub EndsStormFrom : (RetainedLog → Type 0) → RestartView → ℕ → WrittenBytes → WrittenBytes → Result Unit StormFault → Type 0
EndsStormFrom Accepted restart scripts old new ended = (texts : List WrittenBytes) × (length texts ≡ scripts) × IsResumedStorm restart texts old new ended × WritesAccepted Accepted (resumed_start restart) texts old new ended

abbrev pub PlaysStormFrom : (RetainedLog → Type 0) → RestartView → ℕ → WrittenBytes → WrittenBytes → WrittenBytes → WriterState → ℕ → Type 0
PlaysStormFrom Accepted restart scripts old new before after status =
    (ended : Result Unit StormFault) × EndsStormFrom Accepted restart scripts old new ended × TellsStormEnd ended before after status
