-- The lines of a base: its nodes and its edges, in their order; and the state that has them.
use Rattle.std.specs.Prelude.{◌≡◌, ℕ, ◌<◌, List, [], ◌∷◌}
use Rattle.std.specs.declared.cmp.Ordering.TheVariants.{Less}
use Rattle.rule_machine.specs.declared.base.NodeRecord.{NodeRecord}
use Rattle.rule_machine.specs.Network.{Network, pair_cmp, edge_list, names}
use Rattle.rule_machine.specs.State.{State, IsState}
use Rattle.rule_machine.specs.Base.{node_records}

-- the names of the nodes ascend, and all are above v
abbrev pub NamesRise : ℕ → List NodeRecord → Type 0
NamesRise v [] = Unit {0}
NamesRise v (place ∷ nodes) = (v < place.node) × NamesRise place.node nodes

-- the edges ascend by lower, then by higher ends, and all come after the edge e
abbrev pub EdgesAscend : ℕ × ℕ → List (ℕ × ℕ) → Type 0
EdgesAscend e [] = Unit {0}
EdgesAscend e (next ∷ edges) = (pair_cmp e next ≡ Less) × EdgesAscend next edges

-- the state s has names up to size and these lines
pub record HasLines (size : ℕ) (nodes : List NodeRecord) (edges : List (ℕ × ℕ)) (s : State) : Type 0 where
  pub size_is : s.network.size ≡ size
  pub nodes_are : node_records s ≡ nodes
  pub edges_are : edge_list s.network ≡ edges

-- no state has these lines
abbrev pub NoStateHas : ℕ → List NodeRecord → List (ℕ × ℕ) → Type 0
NoStateHas size nodes edges = (s : State) → IsState s → HasLines size nodes edges s → ⊥

-- no state of these nodes has these edges
abbrev pub NoStateLinks : Network → List (ℕ × ℕ) → Type 0
NoStateLinks net edges =
    (s : State) → IsState s → names s.network ≡ names net → edge_list s.network ≡ edges → ⊥

-- no state of these nodes and edges has these registers
abbrev pub NoStateHolds : Network → List NodeRecord → Type 0
NoStateHolds net nodes =
    (s : State) → IsState s → names s.network ≡ names net → edge_list s.network ≡ edge_list net → node_records s ≡ nodes → ⊥
