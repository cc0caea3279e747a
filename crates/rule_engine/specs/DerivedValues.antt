-- Values that are derived from a state.
use Rattle.std.specs.Prelude.{ℕ, Bool, List}
use Rattle.net_totals.specs.declared.contribution.Contribution.{Contribution}
use Rattle.net_totals.specs.Contributions.{IsExactState}
use Rattle.net_state.specs.StateViews.{StateView}
use Rattle.net_state.specs.Changes.{IsChange}
use Rattle.net_state.specs.declared.change.Change.{Change}
use Rattle.net_state.specs.declared.open_edges.OpenEdges.{OpenEdges}
use Rattle.rule_machine.specs.RuleTable.{RuleTable}
use Rattle.rule_machine.specs.State.{State}
use Rattle.suitor_index.specs.declared.tally.Tally.{Tally}
use Rattle.suitor_index.specs.Tallies.{IsIndexed}
use Rattle.rule_engine.specs.EngineStates.{AreOn}

-- the tallies, the contributions of names that are not stale, the count of open edges and the enabled nodes
-- are those of the state
pub record IsDerived (above courted_close : Bool) (t : RuleTable) (closes : State → ℕ → Bool) (adds : State → ℕ → ℕ) (net : StateView) (tallies : List Tally) (open_edges : OpenEdges) (each : List Contribution) (lower stale bits : List Bool) : Type 0 where
  pub index : IsIndexed above t.opens net.state tallies
  pub exact : IsExactState courted_close closes adds net open_edges each lower stale
  pub enabled : AreOn t net.state bits

-- before the change the members of the set were the enabled nodes
abbrev pub WereOn : RuleTable → List Bool → Change → StateView → Type 0
WereOn t bits change now = (before : StateView) × (IsChange before change now × AreOn t before.state bits)
