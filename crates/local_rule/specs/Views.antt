-- What is shown at a node: the node's own record, and the records of its neighbours.
use Rattle.std.specs.Prelude.{◌≡◌, ℕ, List, map, Option, find, nat_eq, IsTrue}
use Rattle.rule_machine.specs.declared.base.NodeRecord.{NodeRecord}
use Rattle.rule_machine.specs.Base.{node_record_at}
use Rattle.rule_machine.specs.Network.{present, neighbours}
use Rattle.rule_machine.specs.State.{State, IsState}

-- The state shows this at the node: the node is present, `own` is its record, and `around` are the records of
-- its neighbours, ascending by name.
pub record ShowsAtNode (s : State) (own : NodeRecord) (around : List NodeRecord) : Type 0 where
  pub is_state : IsState s
  pub here : IsTrue (present s.network own.node)
  pub itself : own ≡ node_record_at s own.node
  pub others : around ≡ map (node_record_at s) (neighbours s.network own.node)

-- some state shows this at the node
abbrev pub IsShown : NodeRecord → List NodeRecord → Type 0
IsShown own around = (s : State) × ShowsAtNode s own around

-- no state shows this at the node
abbrev pub IsNeverShown : NodeRecord → List NodeRecord → Type 0
IsNeverShown own around = (s : State) → ShowsAtNode s own around → ⊥

-- the record of this name, if there is one
abbrev pub record_of : List NodeRecord → ℕ → Option NodeRecord
record_of around w = find (λ r. nat_eq r.node w) around
