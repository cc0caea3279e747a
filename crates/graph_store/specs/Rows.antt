-- Neighbour lists as a network: each name's row is at the name's index, and index 0 belongs to no node.
use Rattle.std.specs.Prelude.{◌≡◌, ℕ, ◌+◌, ◌<◌, ◌≤◌, Bool, true, false, List, [], ◌∷◌, ◌++◌, map, filter, length, nat_eq, nat_lt, slice_index, slice_index_or, slice_set, IsTrue}
use Rattle.std.specs.List.{insert, list_any, remove}
use Rattle.std.specs.List.Sorted.{IsStrictlyIncreasing}
use Rattle.std.specs.declared.vec.Vec.{Vec}
use Rattle.std.specs.declared.alloc.Global.{Global}
use Rattle.rule_machine.specs.Network.{Network, PairSet, pair_set, edge_count, present}

-- the neighbour lists, whatever their capacities
abbrev pub contents : List (Vec ℕ Global) → List (List ℕ)
contents rows = map (λ row. row.items) rows

-- the neighbour list of a name
abbrev pub row_at : List (List ℕ) → ℕ → List ℕ
row_at rows v = slice_index_or rows v []

-- whether a name is in a row
abbrev pub has : List ℕ → ℕ → Bool
has row w = list_any (nat_eq w) row

-- the edges in the rows from v on, each listed once, at its lower end
abbrev pub pairs_from : ℕ → List (List ℕ) → List (ℕ × ℕ)
pairs_from v [] = []
pairs_from v (row ∷ rows) = map (λ w. (v, w)) (filter (nat_lt v) row) ++ pairs_from (v + 1) rows

-- the edges in all rows
unfoldable pub edges_of : List (List ℕ) → PairSet
edges_of rows = pair_set (pairs_from 0 rows)

-- the network of `size` names in which the roll says which names are present and the rows say which
-- edges there are
abbrev pub network_of : ℕ → List Bool → List (List ℕ) → Network
network_of size roll rows = record { size = size; here = roll; edges = edges_of rows }

-- The roll says which names are present. Each row ascends and has only other nodes of the network. The
-- row of v has w if and only if the row of w has v.
pub record IsRows (size : ℕ) (roll : List Bool) (rows : List (List ℕ)) : Type 0 where
  pub places : length rows ≡ size + 1
  pub roll_len : length roll ≡ size + 1
  pub nobody : slice_index_or roll 0 false ≡ false
  pub within : (v w : ℕ) → has (row_at rows v) w ≡ true → IsTrue (present (network_of size roll rows) w)
  pub mutual_in : (v w : ℕ) → has (row_at rows v) w ≡ has (row_at rows w) v
  pub apart : (v : ℕ) → has (row_at rows v) v ≡ false
  pub rising : (v : ℕ) → IsStrictlyIncreasing (row_at rows v)

-- the rows of a store that counts this many edges
pub record IsStore (size : ℕ) (roll : List Bool) (edges : ℕ) (rows : List (List ℕ)) : Type 0 where
  pub is_rows : IsRows size roll rows
  pub few_nodes : size ≤ 65535
  pub counted : edge_count (network_of size roll rows) ≡ edges
  pub few_edges : edges ≤ 1048576

-- the rows after two names were inserted into each other's rows, at these indices
abbrev pub put_both : List (List ℕ) → ℕ → ℕ → ℕ → ℕ → List (List ℕ)
put_both rows a i b j =
    slice_set (slice_set rows a (insert (row_at rows a) i b)) b (insert (row_at rows b) j a)

-- the rows after two names were removed from each other's rows, at these indices
abbrev pub take_both : List (List ℕ) → ℕ → ℕ → ℕ → ℕ → List (List ℕ)
take_both rows a i b j =
    slice_set (slice_set rows a (remove (row_at rows a) i)) b (remove (row_at rows b) j)

-- w is in the row at index i
abbrev pub IsPlaceOf : List ℕ → ℕ → ℕ → Type 0
IsPlaceOf row w i = (i < length row) × (slice_index row i ≡ w)

-- w belongs into the row at index i: the names before index i are lower, and the names from i on are
-- higher
pub record IsGapFor (row : List ℕ) (w i : ℕ) : Type 0 where
  pub inside : i ≤ length row
  pub below : (k : ℕ) → k < i → slice_index row k < w
  pub above : (k : ℕ) → i ≤ k → k < length row → w < slice_index row k

-- the index of w is in this part of the row or at the part's end: names before the part are lower, and
-- names after the part are higher
pub record IsPartFor (row : List ℕ) (w start size : ℕ) : Type 0 where
  pub inside : start + size ≤ length row
  pub some : 0 < size
  pub below : (k : ℕ) → k < start → slice_index row k < w
  pub above : (k : ℕ) → start + size ≤ k → k < length row → w < slice_index row k
