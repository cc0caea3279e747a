-- How the run of a script ends.
use Rattle.std.specs.Prelude.{◌≡◌, ℕ, ◌+◌, ◌⊎◌, List, ◌∷◌, ◌++◌, length, take, Option, Result, Ok, Err}
use Rattle.std.specs.Io.KnownBytes.{Appends}
use Rattle.rule_machine.specs.declared.rule_set.RuleSet.{RuleSet}
use Rattle.rule_machine.specs.RuleTable.{RuleTable}
use Rattle.rule_machine.specs.Tables.{table_of}
use Rattle.script_text.specs.Script.{Progress, LinesDo, IsBadLine, MeetsFullLog, lines_of}
use Rattle.run_session.specs.RunStart.{first_progress}
use Rattle.byte_streams.specs.PartialOutput.{AppendsBeginning}
use Rattle.script_run.specs.declared.fault.RunFault.{RunFault}
use Rattle.script_run.specs.declared.fault.RunFault.TheVariants.{BadLine, LogFull, Read, Write, Memory, Pool}

-- the lines before this line, which has this number, lead to the end
pub record StopsAtLine (t : RuleTable) (limit : ℕ) (lines : List (List ℕ)) (start : Progress) (n : ℕ) (line : List ℕ) (end : Progress) : Type 0 where
  pub before : List (List ℕ)
  pub behind : List (List ℕ)
  pub splits : lines ≡ before ++ line ∷ behind
  pub number : n ≡ length before + 1
  pub does : LinesDo t limit before start end

-- the line with this number is no command
abbrev pub StopsAtBadLine : RuleTable → ℕ → List (List ℕ) → Progress → ℕ → Progress → Type 0
StopsAtBadLine t limit lines start number end =
    (line : List ℕ) × StopsAtLine t limit lines start number line end × IsBadLine line

-- some line is a command that meets a full log, and the run ends there
abbrev pub StopsAtFullLog : RuleTable → ℕ → List (List ℕ) → Progress → Progress → Type 0
StopsAtFullLog t limit lines start end =
    (number : ℕ) × (line : List ℕ) × (before : Progress) × StopsAtLine t limit lines start number line before × MeetsFullLog t limit line before end

-- some first lines lead to the end
abbrev pub LinesLeadTo : RuleTable → ℕ → List (List ℕ) → Progress → Progress → Type 0
LinesLeadTo t limit lines start end = (n : ℕ) × LinesDo t limit (take n lines) start end

-- some first lines lead to the end; or they lead to a line that meets a full log, and the run ends there
abbrev pub LinesReach : RuleTable → ℕ → List (List ℕ) → Progress → Progress → Type 0
LinesReach t limit lines start end = LinesLeadTo t limit lines start end ⊎ StopsAtFullLog t limit lines start end

-- P holds of the text written: that of all lines; of the lines before a bad line or a full log; or of some
-- first lines, if the reader failed. If the writer failed or memory ran out, Q holds of the text of some
-- first lines.
abbrev pub EndsScript : RuleTable → ℕ → List (List ℕ) → Progress → Result Unit RunFault → (List ℕ → Type 0) → (List ℕ → Type 0) → Type 0
EndsScript t limit lines start (Ok done) P Q = (end : Progress) × LinesDo t limit lines start end × P end.text
EndsScript t limit lines start (Err (BadLine number)) P Q = (end : Progress) × StopsAtBadLine t limit lines start number end × P end.text
EndsScript t limit lines start (Err LogFull) P Q = (end : Progress) × StopsAtFullLog t limit lines start end × P end.text
EndsScript t limit lines start (Err Read) P Q = (end : Progress) × LinesLeadTo t limit lines start end × P end.text
EndsScript t limit lines start (Err Write) P Q = (end : Progress) × LinesReach t limit lines start end × Q end.text
EndsScript t limit lines start (Err Memory) P Q = (end : Progress) × LinesReach t limit lines start end × Q end.text
EndsScript t limit lines start (Err (Pool why)) P Q = ⊥

-- the script was run from this start under the rules of a table, and its text was written as `EndsScript`
-- says
abbrev pub EndsFrom : RuleTable → ℕ → Progress → List ℕ → Option (List ℕ) → Option (List ℕ) → Result Unit RunFault → Type 0
EndsFrom t limit start script old new result = EndsScript t limit (lines_of script) start result (Appends old new) (AppendsBeginning old new)

-- the script was run, and the writer has exactly the header, the machine's entries and the bases of the
-- checkpoints. After a reader's fault it has those of some first lines, and after a writer's fault or
-- memory's, a beginning of those.
abbrev pub IsRunOutcome : RuleSet → ℕ → ℕ → ℕ → List ℕ → Option (List ℕ) → Option (List ℕ) → Result Unit RunFault → Type 0
IsRunOutcome rules nodes present limit script old new result = EndsFrom (table_of rules) limit (first_progress rules nodes present) script old new result
