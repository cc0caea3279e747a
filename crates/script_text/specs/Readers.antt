-- The scripts of several readers, as far as their texts are known.
use Rattle.std.specs.Prelude.{◌≡◌, ◌≢◌, ℕ, ◌+◌, ◌<◌, ◌⊎◌, List, [], ◌∷◌, length, Option, IfSome}
use Rattle.script_text.specs.Script.{lines_of}
use Rattle.script_text.specs.declared.script.ScriptLine.{ScriptLine}
use Rattle.script_text.specs.declared.fault.TextsFault.{TextsFault}
use Rattle.script_text.specs.declared.fault.TextsFault.TheVariants.{TooManyScripts, BadLine, Read, Memory}
use Rattle.script_text.specs.Texts.{TextHolds, FirstBad}

-- there are as many scripts as texts, and the script at each index is that of the text at the same index
abbrev pub AllHold : List (Option (List ℕ)) → List (List ScriptLine) → Type 0
AllHold [] [] = Unit {0}
AllHold (known ∷ texts) (script ∷ scripts) = IfSome known (λ text. TextHolds text script) × AllHold texts scripts
AllHold texts scripts = ⊥

-- the text is a script: it has no bad line
abbrev pub IsScript : List ℕ → Type 0
IsScript text = (script : List ScriptLine) × TextHolds text script

-- among texts numbered from this number, this line of this script is bad; all earlier texts, and all earlier
-- lines of the script, are good
abbrev pub FirstBadScript : ℕ → List (Option (List ℕ)) → ℕ → ℕ → Type 0
FirstBadScript number [] script line = ⊥
FirstBadScript number (known ∷ texts) script line =
    ((script ≡ number) × IfSome known (λ text. FirstBad 1 (lines_of text) line))
    ⊎ (IfSome known IsScript × FirstBadScript (number + 1) texts script line)

-- why the script with this number was not read
abbrev pub IsReaderFault : ℕ → Option (List ℕ) → TextsFault → Type 0
IsReaderFault number known TooManyScripts = ⊥
IsReaderFault number known (BadLine script line) = (script ≡ number) × IfSome known (λ text. FirstBad 1 (lines_of text) line)
IsReaderFault number known Read = Unit {0}
IsReaderFault number known Memory = Unit {0}

-- why scripts were not read
abbrev pub IsTextsFault : List (Option (List ℕ)) → TextsFault → Type 0
IsTextsFault texts TooManyScripts = 64 < length texts
IsTextsFault texts (BadLine script line) = FirstBadScript 1 texts script line
IsTextsFault texts Read = texts ≢ []
IsTextsFault texts Memory = Unit {0}
