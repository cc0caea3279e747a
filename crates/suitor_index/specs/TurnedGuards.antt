-- The guards that turn with one node: those of nodes that point nowhere and see no other open node.
use Rattle.std.specs.Prelude.{◌≡◌, ℕ, Bool, false, not, ◌&&◌, Option, is_none}
use Rattle.std.specs.Bool.{beq}
use Rattle.rule_machine.specs.Network.{linked}
use Rattle.rule_machine.specs.State.{State, pointer, flag}
use Rattle.rule_machine.specs.LocalViews.{asks_for, reaches_beside}
use Rattle.net_state.specs.declared.change.Change.{Change}
use Rattle.net_state.specs.declared.change.Change.TheVariants.{Pointed, Flagged, Linked, Unlinked, Joined, Removed}

-- whether w points nowhere, and sees an open node exactly if v is open
abbrev pub turns_with : Bool → (Option ℕ → Bool → Bool) → State → ℕ → ℕ → Bool
turns_with above opens s v w = is_none (pointer s w) && not (reaches_beside above opens s w v)

-- whether w is a neighbour of v that asks for v, and turns with v
abbrev pub may_turn : Bool → (Option ℕ → Bool → Bool) → State → ℕ → ℕ → Bool
may_turn above opens s v w = linked s.network v w && (asks_for above w v && turns_with above opens s v w)

-- the write did not open or close v, or no neighbour turns with v
abbrev pub TurnsNoneWith : Bool → (Option ℕ → Bool → Bool) → State → ℕ → Bool → Bool → Type 0
TurnsNoneWith above opens s v was_open is_open = (w : ℕ) → (not (beq was_open is_open) && may_turn above opens s v w) ≡ false

-- so it is after the change that led to the state, if the change is a write
abbrev pub TurnsNone : Bool → (Option ℕ → Bool → Bool) → State → Change → Type 0
TurnsNone above opens s (Pointed v was is) = TurnsNoneWith above opens s v (opens was (flag s v)) (opens is (flag s v))
TurnsNone above opens s (Flagged v was is) = TurnsNoneWith above opens s v (opens (pointer s v) was) (opens (pointer s v) is)
TurnsNone above opens s (Linked a b) = Unit {0}
TurnsNone above opens s (Unlinked a b) = Unit {0}
TurnsNone above opens s (Joined v) = Unit {0}
TurnsNone above opens s (Removed v) = Unit {0}
