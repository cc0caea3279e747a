-- What a storm has written, judged by the auditor.
use Rattle.std.specs.Prelude.{◌≡◌, ℕ, ◌+◌, ◌⊎◌, List, ◌++◌, length, Option, None, Some, Result, Ok, Err}
use Rattle.std.specs.Io.KnownBytes.{Appends, Keeps}
use Rattle.byte_streams.specs.PartialOutput.{AppendsBeginning}
use Rattle.rule_machine.specs.Base.{base_of}
use Rattle.rule_machine.specs.Tables.{table_of, weight_of}
use Rattle.auditor.specs.declared.summary.Summary.{Summary}
use Rattle.auditor.specs.declared.transcript_end.TranscriptEnd.{TranscriptEnd}
use Rattle.auditor.specs.AcceptedRuns.{IsAccepted}
use Rattle.auditor.specs.TranscriptEnds.{end_moment}
use Rattle.step_log.specs.RetainedLogs.{RetainedLog}
use Rattle.locked_net.specs.declared.fault.CallFault.{CallFault}
use Rattle.locked_net.specs.declared.fault.CallFault.TheVariants as call
use Rattle.script_text.specs.Readers.{AllHold}
use Rattle.script_text.specs.declared.script.ScriptLine.{ScriptLine}
use Rattle.script_run.specs.RunOptions.{OptionsView}
use Rattle.storm_runner.specs.Outcome.{Leaves, StormStart, text_of}
use Rattle.storm_runner.specs.declared.fault.StormFault.{StormFault}
use Rattle.storm_runner.specs.declared.fault.StormFault.TheVariants.{TooManyScripts, BadLine, LogFull, Read, Write, Memory, Behind, Thread, Unsettled}

-- the auditor accepts the text of a kept log, and counts its entries
abbrev pub IsAcceptedLog : OptionsView → RetainedLog → Type 0
IsAcceptedLog options kept = (c : Summary) × IsAccepted (text_of options kept) c × (c.entries ≡ length kept.entries)

-- The auditor accepts the text of the kept log. If the log begins with the base of this end, as it does until a
-- checkpoint drops that base, the auditor also accepts the first text with that of the log appended, and counts
-- the entries of both.
abbrev pub IsAcceptedLogBehind : List ℕ → TranscriptEnd → OptionsView → RetainedLog → Type 0
IsAcceptedLogBehind first end options kept =
    IsAcceptedLog options kept × (kept.base ≡ Some (base_of end.number (end_moment end).moment)
    → (c : Summary) × IsAccepted (first ++ text_of options kept) c × (c.entries ≡ end.summary.entries + length kept.entries))

-- The scripts are those of the texts, and they leave a kept log with this fault. It is accepted so, and P holds of
-- its text.
abbrev pub LeavesAccepted : (RetainedLog → Type 0) → StormStart → List (Option (List ℕ)) → Option CallFault → (List ℕ → Type 0) → Type 0
LeavesAccepted Accepted at texts fault P =
    (scripts : List (List ScriptLine)) × (kept : RetainedLog) × AllHold texts scripts × Leaves (table_of at.asked.rules) (weight_of at.asked.rules) at scripts fault kept × Accepted kept × P (text_of at.asked kept)

-- The kept log that the scripts leave is accepted so. Its text was written: whole, or a beginning of it if the
-- writer failed, or nothing where no log was left.
abbrev pub WritesAccepted : (RetainedLog → Type 0) → StormStart → List (Option (List ℕ)) → Option (List ℕ) → Option (List ℕ) → Result Unit StormFault → Type 0
WritesAccepted Accepted at texts old new (Ok done) = LeavesAccepted Accepted at texts None (Appends old new)
WritesAccepted Accepted at texts old new (Err LogFull) = LeavesAccepted Accepted at texts (Some call.LogFull) (Appends old new)
WritesAccepted Accepted at texts old new (Err Behind) =
    (front : ℕ) × (greatest : ℕ) × LeavesAccepted Accepted at texts (Some (call.Behind front greatest)) (Appends old new)
WritesAccepted Accepted at texts old new (Err Memory) =
    LeavesAccepted Accepted at texts (Some call.Memory) (Appends old new) ⊎ Keeps old new
WritesAccepted Accepted at texts old new (Err Write) =
    (fault : Option CallFault) × LeavesAccepted Accepted at texts fault (AppendsBeginning old new)
WritesAccepted Accepted at texts old new (Err (Unsettled why)) = Keeps old new
WritesAccepted Accepted at texts old new (Err TooManyScripts) = Keeps old new
WritesAccepted Accepted at texts old new (Err (BadLine script line)) = Keeps old new
WritesAccepted Accepted at texts old new (Err Read) = Keeps old new
WritesAccepted Accepted at texts old new (Err Thread) = ⊥
