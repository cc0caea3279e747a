-- What a run has done with the lines that were read whole.
use Rattle.std.specs.Prelude.{◌≡◌, ℕ, List, [], ◌∷◌, ◌++◌, Option}
use Rattle.std.specs.Io.KnownBytes.{Consumes}
use Rattle.std.specs.List.{All}
use Rattle.rule_machine.specs.RuleTable.{RuleTable}
use Rattle.script_text.specs.Script.{Progress, LinesDo}
use Rattle.byte_streams.specs.Lines.{IsLine}

-- the bytes of these lines, each with an LF after it
abbrev pub ended_text : List (List ℕ) → List ℕ
ended_text [] = []
ended_text (line ∷ lines) = line ++ 10 ∷ ended_text lines

-- The bytes are these lines, each with its LF, and then a begun line.
pub record AreWholeLines (lines : List (List ℕ)) (begun bytes : List ℕ) : Type 0 where
  pub joined : bytes ≡ ended_text lines ++ begun
  pub each : All IsLine lines
  pub unended : IsLine begun

-- Exactly the lines whose LF the reader has given lead to the end, and P holds of the text at this end.
pub record DoesWholeLines (t : RuleTable) (limit : ℕ) (start : Progress) (had left : Option (List ℕ)) (P : List ℕ → Type 0) : Type 0 where
  pub bytes : List ℕ
  pub gave : Consumes had left bytes
  pub lines : List (List ℕ)
  pub begun : List ℕ
  pub whole : AreWholeLines lines begun bytes
  pub end : Progress
  pub does : LinesDo t limit lines start end
  pub holds : P end.text
