-- Tallies of the state before a change.
use Rattle.std.specs.Prelude.{ℕ, Bool, List, Option}
use Rattle.net_state.specs.StateViews.{StateView}
use Rattle.net_state.specs.Changes.{IsChange}
use Rattle.net_state.specs.declared.change.Change.{Change}
use Rattle.suitor_index.specs.declared.tally.Tally.{Tally}
use Rattle.suitor_index.specs.Tallies.{IsIndexed}

-- the tallies are the index of the state before the change
abbrev pub WasIndexed : Bool → (Option ℕ → Bool → Bool) → List Tally → Change → StateView → Type 0
WasIndexed above opens tallies change now = (before : StateView) × (IsChange before change now × IsIndexed above opens before.state tallies)
