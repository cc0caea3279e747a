-- How the program ends: what the writers have, and the exit status.
use Rattle.std.specs.Prelude.{◌≡◌, ℕ, List, length, Option, None, Some, Result, Ok, Err, IfOk}
use Rattle.std.specs.Io.KnownBytes.{Keeps}
use Rattle.clap.specs.declared.error.kind.ErrorKind.{ErrorKind}
use Rattle.clap.specs.declared.error.kind.ErrorKind.TheVariants.{OutOfMemory}
use Rattle.rule_machine.specs.declared.rule_set.RuleSet.{RuleSet}
use Rattle.rule_machine.specs.Tables.{table_of}
use Rattle.script_run.specs.declared.fault.RunFault.{RunFault}
use Rattle.script_run.specs.declared.fault.RunFault.TheVariants.{Memory}
use Rattle.script_run.specs.Outcome.{IsRunOutcome}
use Rattle.run_session.specs.RunStart.{first_progress}
use Rattle.command_line.specs.RunTexts.{EndsAcceptedFrom, IsAcceptedRun}
use Rattle.cli_args.specs.declared.task.Task.{Task}
use Rattle.cli_args.specs.declared.task.Task.TheVariants as variants
use Rattle.cli_args.specs.declared.task.Task.TheVariants.{Run, Resume, Audit, Picture, Epochs, ResumeStorm, Show}
use Rattle.cli_args.specs.TaskWords.{Storm, present_at_start, resumed_storm_of, storm_of}
use Rattle.command_line.specs.declared.verdict.CheckEnd.{CheckEnd}
use Rattle.command_line.specs.Status.{ended_status, run_status}
use Rattle.command_line.specs.FaultText.{bad_present_line, run_fault_line}
use Rattle.transcript_view.specs.Views.{IsPicture, IsEpochTable}
use Rattle.command_line.specs.WriterStates.{WriterState, WritesLine}
use Rattle.command_line.specs.ViewEnds.{WrittenBytes, ShowsSome, TellsFault, Views}
use Rattle.command_line.specs.ResumeEnds.{ResumesFile, ResumesStorm}
use Rattle.command_line.specs.Network.{asked_storm}
use Rattle.command_line.specs.RunNotes.{TellsRunEnd}
use Rattle.command_line.specs.StormEnds.{PlaysStorm}
use Rattle.command_line.specs.CheckResults.{IsVerdict, TellsVerdict, verdict_status}

-- the exit status of an audit
abbrev pub checked_status : Result CheckEnd RunFault → ℕ
checked_status (Ok end) = verdict_status end
checked_status (Err fault) = run_status fault

-- The script was run, the writer has its transcript, a fault was reported, perhaps with why a line is bad, and
-- the exit status fits. The auditor accepts what was written, and counts the entries of the run; if the writer
-- failed or memory ran out, it accepts a text that begins so.
abbrev pub TellsOutcome : RuleSet → ℕ → ℕ → ℕ → List ℕ → WrittenBytes → WrittenBytes → WrittenBytes → WriterState → ℕ → Type 0
TellsOutcome rules nodes present limit script old new before after status =
    (ended : Result Unit RunFault) × IsRunOutcome rules nodes present limit script old new ended × EndsAcceptedFrom (table_of rules) limit (first_progress rules nodes present) IsAcceptedRun script old new ended × TellsRunEnd ended before after × (status ≡ ended_status ended)

-- too many nodes for the start are reported, nothing is read, and nothing is written to the writer
abbrev pub TellsBadPresent : WrittenBytes → WrittenBytes → WrittenBytes → WriterState → ℕ → Type 0
TellsBadPresent old new before after status = (status ≡ 2) × Keeps old new × WritesLine before after bad_present_line

-- a run: if this many nodes can be present at the start, the script is run with them; else that is reported
abbrev pub DoesRun : RuleSet → ℕ → Option ℕ → List ℕ → WrittenBytes → WrittenBytes → WrittenBytes → WriterState → ℕ → Type 0
DoesRun rules nodes None input old new before after status = TellsBadPresent old new before after status
DoesRun rules nodes (Some present) input old new before after status = TellsOutcome rules nodes present 16777216 input old new before after status

-- the transcript was judged, the writer has the line of its verdict, a fault was reported, and the exit
-- status fits
abbrev pub TellsCheck : List ℕ → WrittenBytes → WrittenBytes → WrittenBytes → WriterState → ℕ → Type 0
TellsCheck bytes old new before after status =
    (ended : Result CheckEnd RunFault) × IfOk ended (IsVerdict bytes) × TellsVerdict old new ended × TellsFault before after ended × (status ≡ checked_status ended)

-- a storm: if this many nodes can be present at the start, its scripts are played; else that is reported
abbrev pub DoesStorm : Storm → Option ℕ → WrittenBytes → WrittenBytes → WrittenBytes → WriterState → ℕ → Type 0
DoesStorm storm None old new before after status = TellsBadPresent old new before after status
DoesStorm storm (Some present) old new before after status = PlaysStorm (asked_storm storm present) (length storm.scripts) old new before after status

-- what each task does. The bytes and the status of a run are the same for any number of workers. For the help
-- or the version some text is shown. What a file holds that the program opens is not said.
abbrev pub DoesTask : Task → List ℕ → WrittenBytes → WrittenBytes → WrittenBytes → WriterState → ℕ → Type 0
DoesTask (Run rules nodes present workers) input old new before after status = DoesRun rules nodes (present_at_start nodes present) input old new before after status
DoesTask (Resume from workers) input old new before after status = ResumesFile from.now input old new before after status
DoesTask Audit input old new before after status = TellsCheck input old new before after status
DoesTask (Picture entry) input old new before after status = Views (IsPicture input entry) old new before after status
DoesTask Epochs input old new before after status = Views (IsEpochTable input) old new before after status
DoesTask (variants.Storm words) input old new before after status =
    DoesStorm (storm_of words) (present_at_start words.nodes words.present) old new before after status
DoesTask (ResumeStorm words) input old new before after status = ResumesStorm (resumed_storm_of words) old new before after status
DoesTask (Show text) input old new before after status = ShowsSome old new before after status

-- what is written about bad words: that memory ran out, or else an unspecified text or a beginning of that
-- text
abbrev pub TellsMistake : ErrorKind → WrittenBytes → WriterState → Type 0
TellsMistake kind before after =
    (kind ≡ OutOfMemory → WritesLine before after (run_fault_line Memory)) × ((text : List ℕ) × WritesLine before after text)
