-- What each node contributes to the totals of its network.
use Rattle.std.specs.Prelude.{◌≡◌, ℕ, ◌+◌, ◌≤◌, Bool, false, cond, ◌&&◌, List, length, count_by, sum_by, Option, Some, None, is_some, option_and_then, slice_index_or, IsTrue, if◌then◌else◌}
use Rattle.enabled_set.specs.Members.{is_in}
use Rattle.net_state.specs.declared.edge_stance.EdgeStance.{EdgeStance}
use Rattle.net_state.specs.declared.edge_stance.EdgeStance.TheVariants.{Shut, Courted, Free}
use Rattle.net_state.specs.EdgeStances.{end_at, CountsOpenEdges}
use Rattle.net_state.specs.declared.open_edges.OpenEdges.{OpenEdges}
use Rattle.rule_machine.specs.Network.{present, neighbours}
use Rattle.rule_machine.specs.State.{State, Registers, IsState, is_at, points, is_unanswered, married}
use Rattle.rule_machine.specs.Stable.{pair_above}
use Rattle.rule_machine.specs.Charge.{is_courted}
use Rattle.net_state.specs.StateViews.{StateView}
use Rattle.net_totals.specs.declared.contribution.Contribution.{Contribution}

-- the target of v if it points back at v, by these pointers
abbrev pub answered_in : List (Option ℕ) → ℕ → Option ℕ
answered_in pointers v = option_and_then (λ w. if is_at (slice_index_or pointers w None) v then Some w else None) (slice_index_or pointers v None)

abbrev pub answered_by : Registers → ℕ → Option ℕ
answered_by r v = answered_in r.pointers v

-- whether v is the lower end of a mutual pair
abbrev pub is_lower_end : Registers → ℕ → Bool
is_lower_end r v = is_some (pair_above v (answered_by r v))

-- a node's stance towards its edges: Shut if the node is married; Courted if the node is courted and the
-- rules close edges between courted nodes; else Free
abbrev pub stance_of : Bool → State → ℕ → EdgeStance
stance_of courted_close s v = cond (married s v) Shut (cond (courted_close && is_courted s v) Courted Free)

-- 1 if v's pointer is unanswered, plus v's own part
abbrev pub node_part : (ℕ → ℕ) → State → ℕ → ℕ
node_part adds s v = cond (is_unanswered s v) 1 0 + adds v

-- how many pointers at w close an edge that is open by the stances of its ends
abbrev pub closing_at : (ℕ → Bool) → State → ℕ → ℕ
closing_at closes s w = count_by (λ v. points s.registers v w && closes v) (neighbours s.network w)

-- the contribution of an absent name
abbrev pub no_contribution : Contribution
no_contribution = record { added = 0; closing = 0 }

abbrev pub contribution_at : List Contribution → ℕ → Contribution
contribution_at each v = slice_index_or each v no_contribution

-- both numbers of a contribution fit sixteen bits
abbrev pub FitsSixteenBits : Contribution → Type 0
FitsSixteenBits it = (it.added ≤ 65535) × (it.closing ≤ 65535)

-- the two sums are those over all contributions
pub record AreChargeSums (each : List Contribution) (added closing : ℕ) : Type 0 where
  pub in_all : added ≡ sum_by (λ (it : Contribution). it.added) each
  pub closed : closing ≡ sum_by (λ (it : Contribution). it.closing) each

-- the entries of v are its contribution, whether v is a lower end, and its stance towards its edges
pub record IsExactAt (courted_close : Bool) (closes : State → ℕ → Bool) (adds : State → ℕ → ℕ) (s : State) (ends : List EdgeStance) (each : List Contribution) (lower : List Bool) (v : ℕ) : Type 0 where
  pub added : (contribution_at each v).added ≡ cond (present s.network v) (node_part (adds s) s v) 0
  pub closing : (contribution_at each v).closing ≡ cond (present s.network v) (closing_at (closes s) s v) 0
  pub is_lower : is_in lower v ≡ is_lower_end s.registers v
  pub end : IsTrue (present s.network v) → end_at ends v ≡ stance_of courted_close s v

-- the entries of each name that is not stale are right
pub record AreExactUnlessStale (courted_close : Bool) (closes : State → ℕ → Bool) (adds : State → ℕ → ℕ) (s : State) (ends : List EdgeStance) (each : List Contribution) (lower stale : List Bool) : Type 0 where
  pub places : length each ≡ s.network.size + 1
  pub lower_places : length lower ≡ s.network.size + 1
  pub stale_places : length stale ≡ s.network.size + 1
  pub told : (v : ℕ) → is_in stale v ≡ false → IsExactAt courted_close closes adds s ends each lower v

-- the state is valid, the entries of each name that is not stale are right, and the open edges are counted
pub record IsExactState (courted_close : Bool) (closes : State → ℕ → Bool) (adds : State → ℕ → ℕ) (held : StateView) (open_edges : OpenEdges) (each : List Contribution) (lower stale : List Bool) : Type 0 where
  pub sound : IsState held.state
  pub exact : AreExactUnlessStale courted_close closes adds held.state open_edges.stances.items each lower stale
  pub counted : CountsOpenEdges held.state.network open_edges
