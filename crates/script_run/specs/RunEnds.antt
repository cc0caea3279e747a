-- How far a script was carried out, before the rest of its text is written.
use Rattle.std.specs.Prelude.{◌≡◌, ◌⊎◌, ℕ, Bool, true, false, List, ◌++◌, Option, Result, Ok, Err}
use Rattle.std.specs.Io.KnownBytes.{Appends}
use Rattle.rule_machine.specs.RuleTable.{RuleTable}
use Rattle.script_text.specs.declared.command.Command.{Command}
use Rattle.script_text.specs.Script.{Progress, LinesDo}
use Rattle.run_session.specs.Line.{CommandBegins, SaysSome}
use Rattle.byte_streams.specs.PartialOutput.{AppendsBeginning}
use Rattle.script_run.specs.declared.fault.RunFault.{RunFault}
use Rattle.script_run.specs.declared.fault.RunFault.TheVariants.{BadLine, LogFull, Read, Write, Memory, Pool}
use Rattle.script_run.specs.Outcome.{StopsAtLine, StopsAtBadLine, StopsAtFullLog, LinesLeadTo}

-- all of the text was written but the rest
pub record SplitsOutput (old new : Option (List ℕ)) (text rest : List ℕ) : Type 0 where
  pub sent : List ℕ
  pub wrote : Appends old new sent
  pub splits : text ≡ sent ++ rest

-- at most some first turns of the line's command were taken, each of them whole
abbrev pub TakesFirstTurns : RuleTable → ℕ → List ℕ → Progress → Progress → Type 0
TakesFirstTurns t limit line before after = (after ≡ before) ⊎ ((command : Command) × SaysSome line command × CommandBegins t limit command before after)

-- some first lines lead to the end; or they lead to a line, and at most some first turns of it lead to the end
abbrev pub TurnsLeadTo : RuleTable → ℕ → List (List ℕ) → Progress → Progress → Type 0
TurnsLeadTo t limit lines start end =
    LinesLeadTo t limit lines start end
    ⊎ ((number : ℕ) × (line : List ℕ) × (before : Progress) × StopsAtLine t limit lines start number line before × TakesFirstTurns t limit line before end)

-- All lines were carried out, or only those before a bad line, a full log or a failed read. If memory ran out,
-- these and whole turns of the line after them. The writer has all of their text but the rest. If the writer
-- failed, it has a beginning of the text of some lines and whole turns.
abbrev pub EndsReading : RuleTable → ℕ → List (List ℕ) → Progress → Option (List ℕ) → Option (List ℕ) → List ℕ → Result Unit RunFault → Type 0
EndsReading t limit lines start old new rest (Ok done) = (end : Progress) × LinesDo t limit lines start end × SplitsOutput old new end.text rest
EndsReading t limit lines start old new rest (Err (BadLine number)) = (end : Progress) × StopsAtBadLine t limit lines start number end × SplitsOutput old new end.text rest
EndsReading t limit lines start old new rest (Err LogFull) = (end : Progress) × StopsAtFullLog t limit lines start end × SplitsOutput old new end.text rest
EndsReading t limit lines start old new rest (Err Read) = (end : Progress) × LinesLeadTo t limit lines start end × SplitsOutput old new end.text rest
EndsReading t limit lines start old new rest (Err Memory) = (end : Progress) × TurnsLeadTo t limit lines start end × SplitsOutput old new end.text rest
EndsReading t limit lines start old new rest (Err Write) = (end : Progress) × TurnsLeadTo t limit lines start end × AppendsBeginning old new end.text
EndsReading t limit lines start old new rest (Err (Pool why)) = ⊥

-- the writer failed
abbrev pub ends_unwritten : Result Unit RunFault → Bool
ends_unwritten (Err Write) = true
ends_unwritten other = false
