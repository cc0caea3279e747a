-- The lines of a text. An LF ends each line.
use Rattle.std.specs.Prelude.{◌≢◌, ℕ, List, [], ◌∷◌, ◌==◌, Option, None, Some, if◌then◌else◌}
use Rattle.std.specs.List.{AllByRecursion}

-- the bytes are those of one line: they have no LF
abbrev pub IsLine : List ℕ → Type 0
IsLine bytes = AllByRecursion (λ b. b ≢ 10) bytes

-- the first line with this byte put before it, if there is a first line
abbrev pub onto_line : ℕ → Option (List ℕ × List ℕ) → Option (List ℕ × List ℕ)
onto_line b None = None
onto_line b (Some found) = Some (b ∷ found.0, found.1)

-- the first line without its LF, and the rest; None if there is no LF
abbrev pub first_line : List ℕ → Option (List ℕ × List ℕ)
first_line [] = None
first_line (b ∷ bytes) = if b == 10 then Some ([], bytes) else onto_line b (first_line bytes)
