-- A pointer as a number: its target's name, or 0 for null.
use Rattle.std.specs.Prelude.{◌≡◌, ℕ, zero, suc, Option, None, Some, refl}

abbrev pub target_named : ℕ → Option ℕ
target_named zero = None
target_named (suc n) = Some (suc n)

abbrev pub stored_name : Option ℕ → ℕ
stored_name None = 0
stored_name (Some w) = w

-- a pointer's name is that of its target
pub stored_name_of_target : (name : ℕ) → stored_name (target_named name) ≡ name
stored_name_of_target zero = refl
stored_name_of_target (suc n) = refl
