-- What was read of a transcript that is shown.
use Rattle.std.specs.Prelude.{◌≡◌, ◌⊎◌, ◌<◌, ℕ, List, ◌++◌}
use Rattle.script_text.specs.Texts.{EndsInLine}

-- The text is the whole input; or it is the input's beginning, which ends inside a line that is longer than any
-- line of a transcript.
abbrev pub IsReadEnough : List ℕ → List ℕ → Type 0
IsReadEnough input text =
    (input ≡ text) ⊎ ((more : List ℕ) × (begun : ℕ) × (input ≡ text ++ more) × EndsInLine text begun × (2097152 < begun))
