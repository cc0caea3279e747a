-- Each node's stance on its edges, and which edges are open by the stances of their ends.
use Rattle.std.specs.Prelude.{◌≡◌, ℕ, ◌+◌, ◌≤◌, Bool, true, false, not, ◌&&◌, List, length, count_by, slice_index_or, IsTrue}
use Rattle.std.specs.FinMap as map
use Rattle.rule_machine.specs.Network.{Network, PairSet}
use Rattle.net_state.specs.declared.edge_stance.EdgeStance.{EdgeStance}
use Rattle.net_state.specs.declared.edge_stance.EdgeStance.TheVariants.{Shut, Courted, Free}
use Rattle.net_state.specs.declared.open_edges.OpenEdges.{OpenEdges}

abbrev pub is_shut : EdgeStance → Bool
is_shut Shut = true
is_shut Courted = false
is_shut Free = false

abbrev pub is_courted_stance : EdgeStance → Bool
is_courted_stance Shut = false
is_courted_stance Courted = true
is_courted_stance Free = false

-- whether an edge is open if its ends have these two stances
abbrev pub are_open : EdgeStance → EdgeStance → Bool
are_open a b = not (is_shut a) && not (is_shut b) && not (is_courted_stance a && is_courted_stance b)

-- a node's stance on its edges
abbrev pub end_at : List EdgeStance → ℕ → EdgeStance
end_at ends v = slice_index_or ends v Shut

-- how many of these names have an open edge to a node with this stance
abbrev pub open_to : List EdgeStance → EdgeStance → List ℕ → ℕ
open_to ends end names = count_by (λ w. are_open end (end_at ends w)) names

-- how many of these edges are open
abbrev pub open_among : List EdgeStance → PairSet → ℕ
open_among ends edges = count_by (λ e. are_open (end_at ends e.0) (end_at ends e.1)) (map.keys edges)

-- how many edges of a network are open
abbrev pub open_edges : Network → List EdgeStance → ℕ
open_edges net ends = open_among ends net.edges

-- no name has an open edge, and none would have one
abbrev pub AreAllShut : List EdgeStance → Type 0
AreAllShut ends = (v : ℕ) → end_at ends v ≡ Shut

-- There is a stance for each name, and the count is the number of edges of the network that are open. If the
-- flag is set, each stance is `Shut`.
pub record CountsOpenEdges (net : Network) (it : OpenEdges) : Type 0 where
  pub places : length it.stances.items ≡ net.size + 1
  pub counted : open_edges net it.stances.items ≡ it.count
  pub few : it.count ≤ 1048576
  pub shut : IsTrue it.all_shut → AreAllShut it.stances.items
