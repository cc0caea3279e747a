-- How a view of a transcript ends: what the writers have, and the exit status.
use Rattle.std.specs.Prelude.{◌≡◌, ◌⊎◌, ℕ, List, ◌++◌, Result, Ok, Err, IfOk, codes}
use Rattle.std.specs.Io.KnownBytes.{Appends, Keeps}
use Rattle.byte_streams.specs.declared.input_fault.InputFault.{InputFault}
use Rattle.byte_streams.specs.declared.input_fault.InputFault.TheVariants as input
use Rattle.byte_streams.specs.PartialOutput.{AppendsBeginning}
use Rattle.line_text.specs.Words.{number_text}
use Rattle.auditor.specs.declared.fault.AuditFault.{AuditFault}
use Rattle.script_run.specs.declared.fault.RunFault.{RunFault}
use Rattle.script_run.specs.declared.fault.RunFault.TheVariants as run
use Rattle.transcript_view.specs.declared.view.View.{View}
use Rattle.transcript_view.specs.declared.view.View.TheVariants.{Text, Refused, TooFew, Forgotten}
use Rattle.command_line.specs.declared.verdict.CheckEnd.TheVariants as verdict
use Rattle.command_line.specs.FaultText.{run_fault_line}
pub use Rattle.command_line.specs.WriterStates.{WrittenBytes}
use Rattle.command_line.specs.WriterStates.{WriterState, WritesLine}
use Rattle.command_line.specs.Status.{run_status}
use Rattle.command_line.specs.VerdictText.{verdict_line}

-- the line of a missing entry, with its LF: the number asked for, and the number that there is
abbrev pub missing_line : ℕ → List ℕ → ℕ → List ℕ → List ℕ
missing_line entry reason number end = codes "! no entry " ++ (number_text entry ++ reason) ++ (number_text number ++ end)

abbrev pub too_few_line : ℕ → ℕ → List ℕ
too_few_line number entries = missing_line number (codes ": the transcript has ") entries (codes " entries\n")

abbrev pub forgotten_line : ℕ → ℕ → List ℕ
forgotten_line number base = missing_line number (codes ": the transcript begins behind entry ") base (codes "\n")

-- a fault is reported, and nothing is written to the writer
abbrev pub TellsEarly : RunFault → WrittenBytes → WrittenBytes → WrittenBytes → WriterState → ℕ → Type 0
TellsEarly fault old new before after status = (status ≡ run_status fault) × Keeps old new × WritesLine before after (run_fault_line fault)

-- what was written: the fault's line, or a beginning of it if a write failed; nothing if there is no fault
abbrev pub TellsFault : {X : Type 0} → WrittenBytes → WriterState → Result X RunFault → Type 0
TellsFault before after (Ok _) = Keeps before after.got
TellsFault before after (Err fault) = WritesLine before after (run_fault_line fault)

-- the text is written; or a write failed, a beginning of the text is written, and the failed write is
-- reported
abbrev pub ShowsText : List ℕ → ℕ → WrittenBytes → WrittenBytes → WrittenBytes → WriterState → ℕ → Type 0
ShowsText text good old new before after status =
    ((status ≡ good) × Appends old new text × Keeps before after.got)
    ⊎ ((status ≡ 3) × AppendsBeginning old new text × WritesLine before after (run_fault_line run.Write))

-- an unspecified text is shown; or memory ran out for that text, and nothing is written to the writer
abbrev pub ShowsSome : WrittenBytes → WrittenBytes → WrittenBytes → WriterState → ℕ → Type 0
ShowsSome old new before after status =
    ((text : List ℕ) × ShowsText text 0 old new before after status)
    ⊎ TellsEarly run.Memory old new before after status

-- an audit's verdict is written, or memory ran out for it
abbrev pub ShowsRefusal : AuditFault → WrittenBytes → WrittenBytes → WrittenBytes → WriterState → ℕ → Type 0
ShowsRefusal damage old new before after status =
    ShowsText (verdict_line (verdict.Refused damage)) 1 old new before after status
    ⊎ TellsEarly run.Memory old new before after status

-- the line of a missing entry, or that memory ran out, is reported; nothing is written to the writer
abbrev pub TellsMissing : List ℕ → WrittenBytes → WrittenBytes → WrittenBytes → WriterState → ℕ → Type 0
TellsMissing line old new before after status =
    ((status ≡ 2) × Keeps old new × WritesLine before after line)
    ⊎ TellsEarly run.Memory old new before after status

-- what is done with a view: its text is written, or the verdict of damage; or a missing entry or fault is
-- reported
abbrev pub TellsView : Result View InputFault → WrittenBytes → WrittenBytes → WrittenBytes → WriterState → ℕ → Type 0
TellsView (Ok (Text text)) old new before after status = ShowsText text.items 0 old new before after status
TellsView (Ok (Refused damage)) old new before after status = ShowsRefusal damage old new before after status
TellsView (Ok (TooFew number entries)) old new before after status = TellsMissing (too_few_line number entries) old new before after status
TellsView (Ok (Forgotten number base)) old new before after status = TellsMissing (forgotten_line number base) old new before after status
TellsView (Err input.Read) old new before after status = TellsEarly run.Read old new before after status
TellsView (Err input.Memory) old new before after status = TellsEarly run.Memory old new before after status

-- the view of the input was made; or the input was not read, or memory ran out, and that was reported
abbrev pub Views : (View → Type 0) → WrittenBytes → WrittenBytes → WrittenBytes → WriterState → ℕ → Type 0
Views is old new before after status =
    (viewed : Result View InputFault) × IfOk viewed is × TellsView viewed old new before after status
