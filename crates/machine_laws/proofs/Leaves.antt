-- Registers and edges as a node leaves.
use Rattle.machine_laws.proofs.ChargePrelude.Imports.{◌≡◌, ℕ, false, set, Option, None, Some, is_some, arith, cases_eq, State, Registers, is_at, pointer_of, with_flag, without_pointer}
use Rattle.machine_laws.proofs.Writes.{pointer-with_pointer_other}

-- the state after a node without an edge leaves: its flag is false, and its name is free
abbrev pub after_parting : State → ℕ → State
after_parting s v = record {
  network = record s.network { here = set s.network.here v false };
  registers = with_flag s.registers v false;
}

-- a pointer of another node, or one that is elsewhere, stays
pub without_pointer_stays : (r : Registers) (a b x : ℕ) → (x ≡ a → is_at (pointer_of r x) b ≡ false) → pointer_of (without_pointer r a b) x ≡ pointer_of r x
without_pointer_stays r a b x h = grind (arith, cases_eq, pointer-with_pointer_other)

pub unit_some : (a b : Option (Unit {0})) → is_some a ≡ is_some b → a ≡ b
unit_some a b e = grind arith

pub nothing_left : (o : Option ℕ) → ((y : ℕ) → o ≡ Some y → ⊥) → o ≡ None
nothing_left o h = grind arith
