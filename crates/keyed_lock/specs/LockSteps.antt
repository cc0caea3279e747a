-- The invariant of a lock between any two steps, and what a thread learns from each step. A seat is a
-- thread's place at the lock's table. The word is 0 while the lock is free.
use Rattle.std.specs.Prelude.{◌≡◌, ℕ, ◌==◌, [], ◌∷◌, Option, Some, None, MatchBool}
use mathlib.Core.Option.{some}
use lib.ListN.{get_elem?}
use Rattle.atomic_table.specs.Table.{State, Me, Step}
use Rattle.atomic_table.specs.Seated.{TableId}
use Rattle.atomic_table.specs.declared.shared.Seat.{Seat}

module _ {T K : Type 0} where
  -- while the lock is free, the slot has a value that satisfies the invariant at the key
  pub record IsLockState (holds : K → T → Type 0) (key : K) (s : State (Option T) K) : Type 0 where
    pub word : ℕ
    pub words : s.words ≡ word ∷ []
    pub value : word ≡ 0 → (x : T) × (get_elem? s.homes 0 ≡ some (some (Some x))) × holds key x

  -- a new seat knows the key
  abbrev pub arrived : Step (Option T) → Me (Option T) K → ℕ → Me (Option T) K → Type 0
  arrived step before found after = after.0 ≡ before.0

  -- a seat that takes a free lock gets the lock's value; if the lock is not free, the seat is unchanged
  abbrev pub claimed : (K → T → Type 0) → Step (Option T) → Me (Option T) K → ℕ → Me (Option T) K → Type 0
  claimed holds step before found after = (after.0 ≡ before.0) × MatchBool (found == 0) ((x : T) × (after.1 ≡ (0, Some x) ∷ before.1) × holds before.0 x) (after.1 ≡ before.1)

  -- a seat that has given its slot back learns no fact
  abbrev pub left : Step (Option T) → Me (Option T) K → ℕ → Me (Option T) K → Type 0
  left step before found after = Unit {0}

  -- the seat is at this table, knows the key, and has no slot yet
  abbrev pub Waits : TableId → K → Seat (Option T) K → Type 0
  Waits table key seat = (seat.table_id ≡ table) × (seat.me ≡ (key, []))

  -- the seat knows the key and has the slot, whose value satisfies the invariant at the key
  abbrev pub HasValue : (K → T → Type 0) → K → Me (Option T) K → Type 0
  HasValue holds key me = (x : T) × (me ≡ (key, (0, Some x) ∷ [])) × holds key x

  -- the seat took the value out of the slot and has not given the value back
  abbrev pub Holds : TableId → K → Seat (Option T) K → Type 0
  Holds table key seat = (seat.table_id ≡ table) × (seat.me ≡ (key, (0, None) ∷ []))
