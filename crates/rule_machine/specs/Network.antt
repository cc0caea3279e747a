-- A network: nodes named from 1 up, and undirected edges between different nodes.
-- All other definitions refer to the nodes only by `names`, `present` and `node_count`.
use Rattle.std.specs.Prelude.{◌≡◌, ℕ, ◌+◌, ◌<◌, min, max, Bool, true, false, not, ◌&&◌, ◌||◌, List, [], ◌∷◌, length, map as list_map, filter, nat_le, nat_eq, slice_index_or, slice_set, IsTrue, refl}
use Rattle.std.specs.List.{range_with_len}
use Rattle.std.specs.declared.cmp.Ordering.{Ordering}
use Rattle.std.specs.Ordering.{nat_cmp, ordering_then}
use Rattle.std.specs.Coded.{Coded, code_by, coded×, coded_ℕ, coded_bool, coded_list}
use base.Stored.{coded_unit}
use Rattle.std.specs.FinMap as map

-- the order of pairs: by first number, then by second number
abbrev pub pair_cmp : ℕ × ℕ → ℕ × ℕ → Ordering
pair_cmp a b = ordering_then (nat_cmp a.0 b.0) (nat_cmp a.1 b.1)

-- a finite set of pairs: a finite map with unit values
abbrev pub PairSet : Type 0
PairSet = map.FinMap pair_cmp (Unit {0})

-- the set of a list's pairs
abbrev pub pair_set : List (ℕ × ℕ) → PairSet
pair_set [] = map.empty
pair_set (pair ∷ pairs) = map.insert (pair_set pairs) pair tt

-- Names are 1 to size. `here` says at each name's index whether the name is present; index 0 belongs
-- to no node. An edge is the pair of its ends, the lower name first.
pub record Network : Type 0 where
  pub size : ℕ
  pub here : List Bool
  pub edges : PairSet

abbrev pub network_code : Coded Network
network_code =
    code_by ((ℕ × List Bool) × PairSet) (coded× (coded× coded_ℕ (coded_list coded_bool)) (map.code (coded× coded_ℕ coded_ℕ) coded_unit)) (λ n. ((n.size, n.here), n.edges)) (λ p. record { size = p.0.0; here = p.0.1; edges = p.1 }) (λ _. refl)

-- whether a node has this name
abbrev pub present : Network → ℕ → Bool
present net v = nat_le 1 v && (nat_le v net.size && slice_index_or net.here v false)

-- the names of the nodes, ascending
abbrev pub names : Network → List ℕ
names net = filter (present net) (range_with_len 1 net.size)

-- the number of nodes
abbrev pub node_count : Network → ℕ
node_count net = length (names net)

-- the pair for the edge between two nodes
abbrev pub edge : ℕ → ℕ → ℕ × ℕ
edge a b = (min a b, max a b)

-- whether there is an edge between two names
abbrev pub linked : Network → ℕ → ℕ → Bool
linked net a b = map.contains_key net.edges (edge a b)

-- all neighbours of a node, ascending
abbrev pub neighbours : Network → ℕ → List ℕ
neighbours net v = filter (linked net v) (names net)

-- the edges, ascending by lower end, then by higher end
abbrev pub edge_list : Network → List (ℕ × ℕ)
edge_list net = map.keys net.edges

-- the number of edges
abbrev pub edge_count : Network → ℕ
edge_count net = map.len net.edges

-- `here` has an entry for each name, and each edge joins two different nodes of the network
pub record IsNetwork (net : Network) : Type 0 where
  pub here_len : length net.here ≡ net.size + 1
  pub nobody : slice_index_or net.here 0 false ≡ false
  pub low_first : (a b : ℕ) → IsTrue (map.contains_key net.edges (a, b)) → a < b
  pub low_present : (a b : ℕ) → IsTrue (map.contains_key net.edges (a, b)) → IsTrue (present net a)
  pub high_present : (a b : ℕ) → IsTrue (map.contains_key net.edges (a, b)) → IsTrue (present net b)

-- `here` for `size` names, the first `count` present
abbrev pub first_names : ℕ → ℕ → List Bool
first_names size count = list_map (λ v. nat_le 1 v && nat_le v count) (range_with_len 0 (size + 1))

-- the network of `size` names with the first `count` present, without edges
abbrev pub edgeless_with : ℕ → ℕ → Network
edgeless_with size count = record { size = size; here = first_names size count; edges = map.empty }

-- the network of `size` names, all present, without edges
abbrev pub edgeless : ℕ → Network
edgeless size = edgeless_with size size

-- the network with one more edge
abbrev pub with_edge : Network → ℕ → ℕ → Network
with_edge net a b = record net { edges = map.insert net.edges (edge a b) tt }

-- the network without an edge
abbrev pub without_edge : Network → ℕ → ℕ → Network
without_edge net a b = record net { edges = map.remove net.edges (edge a b) }

-- whether a node is an end of a pair
abbrev pub is_end : ℕ → ℕ × ℕ → Bool
is_end v e = nat_eq e.0 v || nat_eq e.1 v

-- the network with one more node, without edges at it
abbrev pub with_node : Network → ℕ → Network
with_node net v = record net { here = slice_set net.here v true }

-- the network without a node and its edges
abbrev pub without_node : Network → ℕ → Network
without_node net v =
    record net { here = slice_set net.here v false; edges = map.retain_keys net.edges (λ e. not (is_end v e)) }
