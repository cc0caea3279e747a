-- What the run of a script has written, judged by the auditor.
use Rattle.std.specs.Prelude.{◌≡◌, ℕ, ◌+◌, List, ◌++◌, Option, Result, Ok, Err}
use Rattle.std.specs.Io.KnownBytes.{Appends}
use Rattle.rule_machine.specs.RuleTable.{RuleTable}
use Rattle.byte_streams.specs.PartialOutput.{AppendsBeginning}
use Rattle.script_text.specs.Script.{Progress, LinesDo, lines_of}
use Rattle.script_run.specs.declared.fault.RunFault.{RunFault}
use Rattle.script_run.specs.declared.fault.RunFault.TheVariants.{BadLine, LogFull, Read, Write, Memory, Pool}
use Rattle.script_run.specs.Outcome.{LinesLeadTo, LinesReach, StopsAtBadLine, StopsAtFullLog}
use Rattle.auditor.specs.declared.summary.Summary.{Summary}
use Rattle.auditor.specs.declared.transcript_end.TranscriptEnd.{TranscriptEnd}
use Rattle.auditor.specs.AcceptedRuns.{IsAccepted}

-- the auditor accepts the text of the progress, and counts its entries
abbrev pub IsAcceptedRun : Progress → Type 0
IsAcceptedRun p = (c : Summary) × IsAccepted p.text c × (c.entries ≡ p.count)

-- The auditor accepts the text of the progress alone, and counts the entries after this end. It also accepts the
-- first text with that of the progress appended, and counts the entries of both.
abbrev pub IsAcceptedBehind : List ℕ → TranscriptEnd → Progress → Type 0
IsAcceptedBehind first from p =
    ((c : Summary) × IsAccepted p.text c × (c.entries + from.number ≡ p.count))
    × ((c : Summary) × IsAccepted (first ++ p.text) c × (c.entries + from.number ≡ from.summary.entries + p.count))

-- The run reaches an end as `EndsScript` says, and this end is accepted so. P holds of its text; if the writer
-- failed or memory ran out, Q does.
abbrev pub EndsAccepted : RuleTable → ℕ → List (List ℕ) → Progress → (Progress → Type 0) → Result Unit RunFault → (List ℕ → Type 0) → (List ℕ → Type 0) → Type 0
EndsAccepted t limit lines start Accepted (Ok done) P Q = (end : Progress) × LinesDo t limit lines start end × Accepted end × P end.text
EndsAccepted t limit lines start Accepted (Err (BadLine number)) P Q = (end : Progress) × StopsAtBadLine t limit lines start number end × Accepted end × P end.text
EndsAccepted t limit lines start Accepted (Err LogFull) P Q = (end : Progress) × StopsAtFullLog t limit lines start end × Accepted end × P end.text
EndsAccepted t limit lines start Accepted (Err Read) P Q = (end : Progress) × LinesLeadTo t limit lines start end × Accepted end × P end.text
EndsAccepted t limit lines start Accepted (Err Write) P Q = (end : Progress) × LinesReach t limit lines start end × Accepted end × Q end.text
EndsAccepted t limit lines start Accepted (Err Memory) P Q = (end : Progress) × LinesReach t limit lines start end × Accepted end × Q end.text
EndsAccepted t limit lines start Accepted (Err (Pool why)) P Q = ⊥

-- the same of a script, and of what the writer has received
abbrev pub EndsAcceptedFrom : RuleTable → ℕ → Progress → (Progress → Type 0) → List ℕ → Option (List ℕ) → Option (List ℕ) → Result Unit RunFault → Type 0
EndsAcceptedFrom t limit start Accepted script old new result =
    EndsAccepted t limit (lines_of script) start Accepted result (Appends old new) (AppendsBeginning old new)
