-- How a run or a storm ends that goes on where the run of a file ended: what the writers have, and the exit
-- status.
use Rattle.std.specs.Prelude.{◌≡◌, ◌⊎◌, ℕ, List, [], ◌++◌, length, max, min, Option, None, Result, Ok, Err, IfSome, codes}
use Rattle.std.specs.Io.KnownBytes.{Keeps}
use Rattle.rule_machine.specs.RuleTable.{RuleTable}
use Rattle.rule_machine.specs.Tables.{table_of}
use Rattle.script_text.specs.Script.{Progress, with_checkpoint}
use Rattle.auditor.specs.declared.transcript_end.TranscriptEnd.{TranscriptEnd}
use Rattle.auditor.specs.declared.fault.AuditFault.{AuditFault}
use Rattle.auditor.specs.declared.fault.AuditFault.TheVariants as audit
use Rattle.auditor.specs.TranscriptEnds.{IsEndResult, MayGoOn}
use Rattle.script_run.specs.declared.fault.RunFault.{RunFault}
use Rattle.script_run.specs.declared.fault.RunFault.TheVariants as run
use Rattle.script_run.specs.Outcome.{EndsFrom}
use Rattle.command_line.specs.RunTexts.{EndsAcceptedFrom, IsAcceptedBehind}
use Rattle.script_run.specs.Restarts.{RestartView, options_at}
use Rattle.cli_args.specs.TaskWords.{ResumedStorm}
use Rattle.command_line.specs.declared.verdict.CheckEnd.TheVariants as verdict
use Rattle.command_line.specs.FileNotes.{TellsUnread}
use Rattle.command_line.specs.RunNotes.{TellsRunEnd}
use Rattle.command_line.specs.Status.{ended_status}
use Rattle.command_line.specs.StormEnds.{PlaysStormFrom}
use Rattle.command_line.specs.StormTexts.{IsAcceptedLogBehind}
use Rattle.command_line.specs.VerdictText.{verdict_line}
use Rattle.command_line.specs.ViewEnds.{TellsEarly}
use Rattle.command_line.specs.WriterStates.{WrittenBytes, WriterState, WritesLine}

-- the line of a file's damage: the file's name, and an audit's verdict with its LF
abbrev pub damaged_line : List ℕ → AuditFault → List ℕ
damaged_line file damage = codes "! " ++ (file ++ (codes ": " ++ verdict_line (verdict.Refused damage)))

-- the damage is reported, or memory ran out for its line; nothing is written to the writer
abbrev pub TellsDamage : List ℕ → AuditFault → WrittenBytes → WrittenBytes → WrittenBytes → WriterState → ℕ → Type 0
TellsDamage file damage old new before after status =
    ((status ≡ 1) × Keeps old new × WritesLine before after (damaged_line file damage))
    ⊎ TellsEarly run.Memory old new before after status

-- an audit's fault is reported: a failed read with the file's name, want of memory as that of a run, any other
-- as damage
abbrev pub TellsAuditFault : List ℕ → AuditFault → WrittenBytes → WrittenBytes → WrittenBytes → WriterState → ℕ → Type 0
TellsAuditFault file audit.Read old new before after status = TellsUnread file old new before after status
TellsAuditFault file audit.Memory old new before after status = TellsEarly run.Memory old new before after status
TellsAuditFault file damage old new before after status = TellsDamage file damage old new before after status

-- the script was run from this start, the writer has the text, a fault was reported, and the exit status fits
abbrev pub TellsRunFrom : RuleTable → ℕ → Progress → List ℕ → WrittenBytes → WrittenBytes → WrittenBytes → WriterState → ℕ → Type 0
TellsRunFrom t limit start script old new before after status =
    (ended : Result Unit RunFault) × EndsFrom t limit start script old new ended × TellsRunEnd ended before after × (status ≡ ended_status ended)

-- the end of a transcript as the start of a run, whose text begins with the base there
abbrev pub start_at : TranscriptEnd → Progress
start_at end = with_checkpoint (record {
  rules = end.rules;
  moment = record { state = end.net.state; spent = end.spent };
  count = end.number;
  text = [];
  counting = None;
})

-- The script was run from the end of a transcript, a fault was reported, and the exit status fits. The auditor
-- accepts what was written, alone and behind the transcript, and counts the entries; if the writer failed or
-- memory ran out, it accepts a text that begins so.
abbrev pub GoesOnBehind : List ℕ → TranscriptEnd → List ℕ → WrittenBytes → WrittenBytes → WrittenBytes → WriterState → ℕ → Type 0
GoesOnBehind first end script old new before after status =
    (ended : Result Unit RunFault) × EndsFrom (table_of end.rules) 16777216 (start_at end) script old new ended × EndsAcceptedFrom (table_of end.rules) 16777216 (start_at end) (IsAcceptedBehind first end) script old new ended × TellsRunEnd ended before after × (status ≡ ended_status ended)

-- The result is that of an audit of these bytes. They are all that was left in the reader, if that is known.
abbrev pub IsAuditOf : Option (List ℕ) → List ℕ → Result TranscriptEnd AuditFault → Type 0
IsAuditOf left bytes audited = IfSome left (λ all. bytes ≡ all) × IsEndResult bytes audited

-- what is done with the audit of a file with these bytes: the run goes on from its end, or a fault is reported
abbrev pub ResumesAfter : List ℕ → Result TranscriptEnd AuditFault → List ℕ → List ℕ → WrittenBytes → WrittenBytes → WrittenBytes → WriterState → ℕ → Type 0
ResumesAfter bytes (Ok end) file script old new before after status =
    MayGoOn end × GoesOnBehind bytes end script old new before after status
ResumesAfter bytes (Err fault) file script old new before after status = TellsAuditFault file fault old new before after status

-- An open file had this left, if that is known. It was audited: the run goes on from the end of the run whose
-- transcript the audited bytes are, or they have the damage that is reported.
abbrev pub ResumesOpened : Option (List ℕ) → List ℕ → List ℕ → WrittenBytes → WrittenBytes → WrittenBytes → WriterState → ℕ → Type 0
ResumesOpened left file script old new before after status =
    (bytes : List ℕ) × (audited : Result TranscriptEnd AuditFault) × IsAuditOf left bytes audited × ResumesAfter bytes audited file script old new before after status

-- The file could not be opened, which is reported as a failed read; or the run went on from what it had left. No
-- contract can say what a file has left, so this holds for the bytes that were read.
abbrev pub ResumesFile : List ℕ → List ℕ → WrittenBytes → WrittenBytes → WrittenBytes → WriterState → ℕ → Type 0
ResumesFile file script old new before after status =
    TellsUnread file old new before after status ⊎ ((left : Option (List ℕ)) × ResumesOpened left file script old new before after status)

-- the end of a transcript as where a run or a storm goes on, with this many workers for a step
abbrev pub restart_from : TranscriptEnd → ℕ → RestartView
restart_from end workers = record {
  rules = end.rules;
  state = end.net.state;
  spent = end.spent;
  number = end.number;
  limit = 16777216;
  workers = min (max workers 1) 64;
  roamers = 0;
  turns = 1000;
}

-- the end of a transcript as where this storm goes on
abbrev pub storm_from : TranscriptEnd → ResumedStorm → RestartView
storm_from end storm =
    record (restart_from end storm.workers) { roamers = min storm.roamers 64; turns = min storm.turns 1000000 }

-- What is done with the audit of a file with these bytes: the storm goes on from its end, or a fault is reported.
-- The auditor accepts what was written, and also behind these bytes if the storm dropped nothing.
abbrev pub StormsAfter : List ℕ → Result TranscriptEnd AuditFault → ResumedStorm → WrittenBytes → WrittenBytes → WrittenBytes → WriterState → ℕ → Type 0
StormsAfter bytes (Ok end) storm old new before after status =
    MayGoOn end × PlaysStormFrom (IsAcceptedLogBehind bytes end (options_at (storm_from end storm))) (storm_from end storm) (length storm.scripts) old new before after status
StormsAfter bytes (Err fault) storm old new before after status = TellsAuditFault storm.from fault old new before after status

-- An open file had this left, if that is known. It was audited: the storm goes on from the end of the run whose
-- transcript the audited bytes are, or they have the damage that is reported.
abbrev pub StormsOpened : Option (List ℕ) → ResumedStorm → WrittenBytes → WrittenBytes → WrittenBytes → WriterState → ℕ → Type 0
StormsOpened left storm old new before after status =
    (bytes : List ℕ) × (audited : Result TranscriptEnd AuditFault) × IsAuditOf left bytes audited × StormsAfter bytes audited storm old new before after status

-- The file could not be opened, which is reported as a failed read; or the storm went on from what it had left.
-- No contract can say what a file has left, so this holds for the bytes that were read.
abbrev pub ResumesStorm : ResumedStorm → WrittenBytes → WrittenBytes → WrittenBytes → WriterState → ℕ → Type 0
ResumesStorm storm old new before after status =
    TellsUnread storm.from old new before after status ⊎ ((left : Option (List ℕ)) × StormsOpened left storm old new before after status)
