-- The state after a change, and what holds before and after it.
use Rattle.std.specs.Prelude.{◌≡◌, ◌≤◌, [], false, None, IsTrue}
use Rattle.graph_store.specs.Fault.{link_fault}
use Rattle.rule_machine.specs.Network.{linked, neighbours, present, without_edge}
use Rattle.rule_machine.specs.State.{State, IsState, flag, pointer, points}
use Rattle.rule_machine.specs.Disturbance.{after_flag, after_join, after_link, after_point}
use Rattle.net_state.specs.StateViews.{StateView, without_place}
use Rattle.net_state.specs.declared.change.Change.{Change}
use Rattle.net_state.specs.declared.change.Change.TheVariants.{Pointed, Flagged, Linked, Unlinked, Joined, Removed}

abbrev pub changed_state : State → Change → State
changed_state s (Pointed v was is) = after_point s v is
changed_state s (Flagged v was is) = after_flag s v is
changed_state s (Linked a b) = after_link s a b
changed_state s (Unlinked a b) = record s { network = without_edge s.network a b }
changed_state s (Joined v) = after_join s v
changed_state s (Removed v) = without_place s v

-- the change can be made in the state, and the old value that it names is the state's
abbrev pub IsDueChange : State → Change → Type 0
IsDueChange s (Pointed v was is) = IsTrue (present s.network v) × (was ≡ pointer s v)
IsDueChange s (Flagged v was is) = IsTrue (present s.network v) × (was ≡ flag s v)
IsDueChange s (Linked a b) = link_fault s.network a b ≡ None
IsDueChange s (Unlinked a b) = IsTrue (linked s.network a b) × ((points s.registers a b ≡ false) × (points s.registers b a ≡ false))
IsDueChange s (Joined v) = (1 ≤ v) × ((v ≤ s.network.size) × (present s.network v ≡ false))
IsDueChange s (Removed v) = IsTrue (present s.network v) × ((neighbours s.network v ≡ []) × (flag s v ≡ false))

-- the change leads from the first state to the second
pub record IsChange (before : StateView) (change : Change) (now : StateView) : Type 0 where
  pub was_state : IsState before.state
  pub is_state : IsState now.state
  pub due : IsDueChange before.state change
  pub made : now.state ≡ changed_state before.state change
