-- Partner, registers and neighbours of a node, the nodes, the edges, and the nodes not at rest, for C.
use Rattle.std.specs.Prelude.{◌≡◌, ℕ, false, not, List, filter, map, Option}
use Rattle.rule_machine.specs.Network.{Network, names, neighbours, edge_list, present}
use Rattle.rule_machine.specs.State.{State, pointer, flag, partner}
use Rattle.line_text.specs.Words.{IsName}
use Rattle.rudekpi_c.specs.ReachCalls.{rests_at}
use Rattle.rudekpi_c.specs.ReplyNumbers.{number_of, pair_row}
use Rattle.rudekpi_c.specs.Session.{stands}
use Rattle.rudekpi_c.specs.SessionQuestions.{AnswersInSession, AnswersInRange, IsUnlisted, Lists, ListsInMemory}
use Rattle.rudekpi_c.specs.declared.call_result.Row.{Row}
use Rattle.rudekpi_c.specs.declared.session.Session.{Session}
use Rattle.rudekpi_c.specs.declared.node_view.NodeView.{NodeView}

-- the session's state
abbrev pub state_at : Session → State
state_at s = (stands s).moment.state

abbrev pub network_at : Session → Network
network_at s = (state_at s).network

-- 0: the name of the node's partner in the session's state, or 0 without a partner
abbrev pub AnswersPartner : ℕ → ℕ → ℕ → Option Session → Type 0
AnswersPartner node status found =
    AnswersInRange (IsName node) (λ s. (status ≡ 0) × (found ≡ number_of (partner (state_at s) node))) status (found ≡ 0)

-- a node's pointer, 0 for null, its flag, and whether the node is present
abbrev pub node_view : State → ℕ → NodeView
node_view s v = record { pointer = number_of (pointer s v); flag = flag s v; present = present s.network v }

-- what is written without an answer
abbrev pub no_view : NodeView
no_view = record { pointer = 0; flag = false; present = false }

-- 0: the registers of the node in the session's state
abbrev pub AnswersRegisters : ℕ → ℕ → NodeView → Option Session → Type 0
AnswersRegisters node status view =
    AnswersInRange (IsName node) (λ s. (status ≡ 0) × (view ≡ node_view (state_at s) node)) status (view ≡ no_view)

-- 0: all neighbours of the node, ascending; none if the node is absent
abbrev pub AnswersNeighbours : ℕ → ℕ → ℕ → List ℕ → List ℕ → Option Session → Type 0
AnswersNeighbours node status count old new =
    AnswersInRange (IsName node) (λ s. Lists (neighbours (network_at s) node) status count old new) status (IsUnlisted count old new)

-- all nodes, ascending
abbrev pub AnswersNodes : ℕ → ℕ → List ℕ → List ℕ → Option Session → Type 0
AnswersNodes status count old new =
    AnswersInSession (λ s. ListsInMemory (names (network_at s)) status count old new) status (IsUnlisted count old new)

-- the nodes that are not at rest, ascending
abbrev pub restless_at : Session → List ℕ
restless_at s = filter (λ v. not (rests_at s v)) (names (network_at s))

-- all nodes that are not at rest, ascending
abbrev pub AnswersRestless : ℕ → ℕ → List ℕ → List ℕ → Option Session → Type 0
AnswersRestless status count old new =
    AnswersInSession (λ s. ListsInMemory (restless_at s) status count old new) status (IsUnlisted count old new)

-- the edges' rows, ascending by lower end, then by higher end
abbrev pub edge_rows : Session → List Row
edge_rows s = map pair_row (edge_list (network_at s))

-- all edges
abbrev pub AnswersEdges : ℕ → ℕ → List Row → List Row → Option Session → Type 0
AnswersEdges status count old new =
    AnswersInSession (λ s. ListsInMemory (edge_rows s) status count old new) status (IsUnlisted count old new)
