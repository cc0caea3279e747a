-- The line that says why a line of a script is no command.
use Rattle.std.specs.Prelude.{◌≡◌, ◌≤◌, ◌||◌, ℕ, List, ◌++◌, codes, if◌then◌else◌, length, map, min, nat_lt, take}
use Rattle.std.specs.List.{All}

-- a question mark in place of a byte that is not printable ASCII
abbrev pub printed : ℕ → ℕ
printed byte = if nat_lt byte 32 || nat_lt 126 byte then 63 else byte

-- the line with the first 255 bytes of a text, with its LF
abbrev pub reason_note : List ℕ → List ℕ
reason_note text = codes "! " ++ (map printed (take (min (length text) 255) text) ++ codes "\n")

abbrev pub IsPrintable : ℕ → Type 0
IsPrintable byte = (32 ≤ byte) × (byte ≤ 126)

-- one line that begins so: at most 255 printable characters after that, and an LF
pub record IsReasonLine (line : List ℕ) : Type 0 where
  pub text : List ℕ
  pub splits : line ≡ codes "! " ++ (text ++ codes "\n")
  pub printable : All IsPrintable text
  pub few : length text ≤ 255
