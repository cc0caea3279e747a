-- How far a script has been read and carried out.
use Rattle.std.specs.Prelude.{◌≡◌, ℕ, ◌+◌, List, [], ◌++◌, length, Option, Result, Ok, Err}
use Rattle.std.specs.List.{All}
use Rattle.rule_machine.specs.RuleTable.{RuleTable}
use Rattle.script_text.specs.Script.{Progress, LinesDo, lines_of}
use Rattle.byte_streams.specs.Lines.{IsLine}
use Rattle.script_run.specs.declared.fault.RunFault.{RunFault}
use Rattle.script_run.specs.declared.read_progress.ReadProgress.{ReadProgress}
use Rattle.script_run.specs.RunEnds.{SplitsOutput, EndsReading}
use Rattle.script_run.specs.WholeLines.{ended_text}

-- The first n lines of the bytes read, each up to its LF, were carried out and lead to the run's state. After
-- them the bytes read have a begun line, whose LF is not read yet, and a rest that was not looked at. The
-- writer has all of the lines' text but the part that the run still has.
pub record IsReadUpTo (t : RuleTable) (limit : ℕ) (start : Progress) (old : Option (List ℕ)) (read begun rest : List ℕ) (n : ℕ) (now : Progress) (known : Option (List ℕ)) : Type 0 where
  pub before : List (List ℕ)
  pub text : List ℕ
  pub splits : (more : List ℕ) → lines_of (read ++ more) ≡ before ++ lines_of (begun ++ (rest ++ more))
  pub joined : read ≡ ended_text before ++ (begun ++ rest)
  pub each : All IsLine before
  pub unended : IsLine begun
  pub number : n ≡ length before
  pub does : LinesDo t limit before start (record { rules = now.rules; moment = now.moment; count = now.count; text = text; counting = now.counting })
  pub handed : SplitsOutput old known text now.text

-- a piece was carried out up to the line that it begins; or the run ends in the piece, whatever bytes follow
abbrev pub PieceEnds : RuleTable → ℕ → Progress → Option (List ℕ) → List ℕ → List ℕ → ℕ → Progress → Option (List ℕ) → Result Unit RunFault → Type 0
PieceEnds t limit start old read begun n now known (Ok done) = IsReadUpTo t limit start old read begun [] n now known
PieceEnds t limit start old read begun n now known (Err fault) =
    (more : List ℕ) → EndsReading t limit (lines_of (read ++ more)) start old known now.text (Err fault)

-- the piece was carried out, wherever the run had begun and whatever had been read before
abbrev pub CarriesPiece : RuleTable → ℕ → List ℕ → ReadProgress → ReadProgress → Progress → Progress → Option (List ℕ) → Option (List ℕ) → Result Unit RunFault → Type 0
CarriesPiece t limit piece old_reading new_reading before after had has result = (start : Progress) (old : Option (List ℕ)) (read : List ℕ)
    → IsReadUpTo t limit start old read old_reading.begun.items piece old_reading.lines before had
    → PieceEnds t limit start old read new_reading.begun.items new_reading.lines after has result

-- how many lines were found whole, and how many bytes of the next were read
abbrev pub extent : ReadProgress → ℕ
extent reading = reading.lines + length reading.begun.items
