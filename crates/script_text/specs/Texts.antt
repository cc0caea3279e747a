-- The script of a text, line by line, and the first bad line.
use Rattle.std.specs.Prelude.{◌≡◌, ℕ, ◌+◌, ◌<◌, ◌⊎◌, List, [], ◌∷◌, ◌++◌, length, min}
use Rattle.byte_streams.specs.Lines.{IsLine}
use Rattle.script_text.specs.declared.command.Command.{Command}
use Rattle.script_text.specs.Command.{Says}
use Rattle.script_text.specs.Script.{IsBadLine, lines_of}
use Rattle.script_text.specs.declared.script.ScriptLine.{ScriptLine}
use Rattle.script_text.specs.declared.fault.TextsFault.{TextsFault}
use Rattle.script_text.specs.declared.fault.TextsFault.TheVariants.{TooManyScripts, BadLine, Read, Memory}

-- the greatest line number that a script stores; all greater numbers are stored as this number
abbrev pub greatest_number : ℕ
greatest_number = 4294967295

-- what the line with this number adds to the script: the line's command, or nothing if the line is empty
abbrev pub LineHolds : ℕ → List ℕ → List ScriptLine → Type 0
LineHolds number [] own = own ≡ []
LineHolds number (b ∷ line) own =
    (command : Command) × Says (b ∷ line) command × (own ≡ record { line = min number greatest_number; command = command } ∷ [])

-- what the lines add, one after another; the first line has this number
abbrev pub LinesHold : ℕ → List (List ℕ) → List ScriptLine → Type 0
LinesHold number [] script = script ≡ []
LinesHold number (line ∷ lines) script =
    (own : List ScriptLine) × (rest : List ScriptLine) × (script ≡ own ++ rest) × LineHolds number line own × LinesHold (number + 1) lines rest

-- the script has the commands of the text's lines, in order, with their numbers
abbrev pub TextHolds : List ℕ → List ScriptLine → Type 0
TextHolds text script = LinesHold 1 (lines_of text) script

-- the line is empty, or a command
abbrev pub IsGoodLine : List ℕ → Type 0
IsGoodLine [] = Unit {0}
IsGoodLine (b ∷ line) = (command : Command) × Says (b ∷ line) command

-- among lines numbered from the first number, the line with the second number is bad, and all before it are
-- good
abbrev pub FirstBad : ℕ → List (List ℕ) → ℕ → Type 0
FirstBad number [] bad = ⊥
FirstBad number (line ∷ lines) bad =
    ((bad ≡ number) × IsBadLine line) ⊎ (IsGoodLine line × FirstBad (number + 1) lines bad)

-- why a line of the script with this number was not added
abbrev pub IsLineFault : ℕ → ℕ → List ℕ → TextsFault → Type 0
IsLineFault script number line TooManyScripts = ⊥
IsLineFault script number line (BadLine its bad) = (its ≡ script) × (bad ≡ number) × IsBadLine line
IsLineFault script number line Read = ⊥
IsLineFault script number line Memory = Unit {0}

-- why a text was not read as the script with this number
abbrev pub IsTextFault : ℕ → List ℕ → TextsFault → Type 0
IsTextFault script text TooManyScripts = ⊥
IsTextFault script text (BadLine its bad) = (its ≡ script) × FirstBad 1 (lines_of text) bad
IsTextFault script text Read = ⊥
IsTextFault script text Memory = Unit {0}

-- the last bytes of the text, as many as this, have no LF
abbrev pub EndsInLine : List ℕ → ℕ → Type 0
EndsInLine text begun = (front : List ℕ) × (line : List ℕ) × (text ≡ front ++ line) × IsLine line × (length line ≡ begun)

-- all of the text was read; or its beginning was, which ends inside a line of more than `most` bytes
abbrev pub IsReadUntil : ℕ → List ℕ → List ℕ → Type 0
IsReadUntil most all text =
    (all ≡ text) ⊎ ((more : List ℕ) × (begun : ℕ) × (all ≡ text ++ more) × EndsInLine text begun × (most < begun))

-- the same, for a line that is too long to be a command
abbrev pub IsReadSoFar : List ℕ → List ℕ → Type 0
IsReadSoFar all text = IsReadUntil 1048576 all text
