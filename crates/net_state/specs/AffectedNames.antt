-- The names whose surroundings a change may alter.
use Rattle.std.specs.Prelude.{ℕ, ◌<◌, None, Some, IfSome}
use Rattle.net_state.specs.StateViews.{IsUntouchedBy}
use Rattle.net_state.specs.declared.change.Change.{Change}
use Rattle.net_state.specs.declared.change.Change.TheVariants.{Pointed, Flagged, Linked, Unlinked, Joined, Removed}
use Rattle.net_state.specs.declared.change.AffectedNames.{AffectedNames}

abbrev pub affected_by : Change → AffectedNames
affected_by (Pointed v was is) = record { node = v; one = was; two = is }
affected_by (Flagged v was is) = record { node = v; one = None; two = None }
affected_by (Linked a b) = record { node = a; one = Some b; two = None }
affected_by (Unlinked a b) = record { node = a; one = Some b; two = None }
affected_by (Joined v) = record { node = v; one = None; two = None }
affected_by (Removed v) = record { node = v; one = None; two = None }

-- w is none of them
abbrev pub IsUnaffected : AffectedNames → ℕ → Type 0
IsUnaffected names w = IsUntouchedBy names.node names.one names.two w

-- each has a place in a table of this length
pub record AreNamesBelow (places : ℕ) (names : AffectedNames) : Type 0 where
  pub node : names.node < places
  pub one : IfSome names.one (λ w. w < places)
  pub two : IfSome names.two (λ w. w < places)
