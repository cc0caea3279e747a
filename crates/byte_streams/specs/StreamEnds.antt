-- When a reader does not read again.
use Rattle.std.specs.Prelude.{◌≡◌, ◌⊎◌, ℕ, Bool, true}

-- a read failed, or the greatest number of reads was made
abbrev pub IsEnded : Bool → ℕ → Type 0
IsEnded failed count = (failed ≡ true) ⊎ (count ≡ 4294967295)
