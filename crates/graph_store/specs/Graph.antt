-- A store of edges as contracts see it.
use Rattle.std.specs.Prelude.{ℕ, ◌<◌, Bool, List, slice_index_or, refl}
use Rattle.std.specs.Coded.{Coded, code_by, coded×, coded_ℕ, coded_list}
use Rattle.rule_machine.specs.Network.{Network, network_code}
use Rattle.graph_store.specs.RowPools.{RowLists}
use Rattle.graph_store.specs.Rows.{network_of}

-- A network; for each name, the room for further neighbours. The list has an entry for each name.
pub record Graph : Type 0 where
  pub network : Network
  pub room : List ℕ

abbrev pub graph_code : Coded Graph
graph_code =
    code_by (Network × List ℕ) (coded× network_code (coded_list coded_ℕ)) (λ g. (g.network, g.room)) (λ p. record { network = p.0; room = p.1 }) (λ _. refl)

-- the graph that contracts see of a store with these parts
abbrev pub graph_of : ℕ → List Bool → RowLists → Graph
graph_of size roll rows = record {
  network = network_of size roll rows.lists;
  room = rows.room;
}

-- inserting an edge between these two names takes no memory
pub record HasRoomFor (room : List ℕ) (a b : ℕ) : Type 0 where
  pub at_a : 0 < slice_index_or room a 0
  pub at_b : 0 < slice_index_or room b 0
