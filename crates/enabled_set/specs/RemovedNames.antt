-- The names that left a set.
use Rattle.std.specs.Prelude.{◌≡◌, ℕ, Bool, false, ◌||◌, List, nat_eq, IsTrue}
use Rattle.std.specs.List.{list_any}
use Rattle.enabled_set.specs.Members.{is_in}

-- names in the order in which they were noted; if `is_over`, others may be missing
pub record RemovedNames : Type 0 where
  pub names : List ℕ
  pub is_over : Bool

-- whether v may have left the set: it is noted, or names may be missing
abbrev pub may_have : RemovedNames → ℕ → Bool
may_have removed v = removed.is_over || list_any (nat_eq v) removed.names

-- each member of the first set that the second lacks is noted, or names may be missing
abbrev pub AreNoted : List Bool → List Bool → RemovedNames → Type 0
AreNoted before after removed = (v : ℕ) → IsTrue (is_in before v) → is_in after v ≡ false → IsTrue (may_have removed v)

-- a change of the set and of the list: all that was noted stays so, and so is each name that leaves
abbrev pub KeepsNotes : List Bool → RemovedNames → List Bool → RemovedNames → Type 0
KeepsNotes set removed set' removed' = (before : List Bool) → AreNoted before set removed → AreNoted before set' removed'
