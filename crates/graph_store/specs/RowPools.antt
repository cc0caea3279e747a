-- Neighbour lists in a pool of names; a long list has a vector of its own.
use Rattle.std.specs.Prelude.{◌≡◌, ℕ, ◌+◌, ◌*◌, ◌-◌, ◌<◌, ◌≤◌, ◌⊎◌, Bool, List, map, take, drop, length, if◌then◌else◌, nat_lt, slice_index_or, refl}
use Rattle.std.specs.List.{range_with_len}
use Rattle.std.specs.Coded.{Coded, code_by, coded×, coded_ℕ, coded_list}
use Rattle.std.specs.Vec.{vec_len, vec_capacity}
use Rattle.std.specs.declared.vec.Vec.{Vec}
use Rattle.std.specs.declared.alloc.Global.{Global}
use Rattle.graph_store.specs.declared.row_pool.Head.{Head}
use Rattle.graph_store.specs.Rows.{contents, row_at}

-- Each name's neighbours, and the room for further ones. Both lists have an entry for each name.
pub record RowLists : Type 0 where
  pub lists : List (List ℕ)
  pub room : List ℕ

abbrev pub lists_code : Coded RowLists
lists_code =
    code_by (List (List ℕ) × List ℕ) (coded× (coded_list (coded_list coded_ℕ)) (coded_list coded_ℕ)) (λ r. (r.lists, r.room)) (λ p. record { lists = p.0; room = p.1 }) (λ _. refl)

-- the names of a pool from an index on
abbrev pub names_at : List ℕ → ℕ → ℕ → List ℕ
names_at pool start len = take len (drop start pool)

abbrev pub no_head : Head
no_head = record { start = 0; len = 0; units = 0 }

abbrev pub head_at : List Head → ℕ → Head
head_at heads v = slice_index_or heads v no_head

-- the row that this head stands for has a vector of its own
abbrev pub is_long : Head → Bool
is_long h = nat_lt 64 h.len

-- the neighbours of v, whose head this is
abbrev pub row_of : List ℕ → List (Vec ℕ Global) → Head → ℕ → List ℕ
row_of pool long h v = if is_long h then row_at (contents long) v else names_at pool h.start h.len

-- the room in the vector at an index
abbrev pub spare_at : List (Vec ℕ Global) → ℕ → ℕ
spare_at long v = slice_index_or (map (λ row. vec_capacity row - vec_len row) long) v 0

-- the room for further neighbours of v, whose head this is
abbrev pub room_of : List (Vec ℕ Global) → Head → ℕ → ℕ
room_of long h v = if is_long h then spare_at long v else 16 * h.units - h.len

-- the neighbour lists of all names
unfoldable pub lists_of : List Head → List ℕ → List (Vec ℕ Global) → List (List ℕ)
lists_of heads pool long = map (λ v. row_of pool long (head_at heads v) v) (range_with_len 0 (length heads))

-- the room in all lists
unfoldable pub rooms_of : List Head → List (Vec ℕ Global) → List ℕ
rooms_of heads long = map (λ v. room_of long (head_at heads v) v) (range_with_len 0 (length heads))

-- one part of a list ends before the other begins
abbrev pub AreDisjointParts : ℕ → ℕ → ℕ → ℕ → Type 0
AreDisjointParts start size start' size' = (start + size ≤ start') ⊎ (start' + size' ≤ start)

-- Each block is in the pool, apart from all others, has at most 64 names and has room for its row. Each
-- long row has its vector.
pub record IsPool (heads : List Head) (pool : List ℕ) (long : List (Vec ℕ Global)) : Type 0 where
  pub small : (v : ℕ) → (head_at heads v).units ≤ 4
  pub fits : (v : ℕ) → (head_at heads v).len ≤ 64 → (head_at heads v).len ≤ 16 * (head_at heads v).units
  pub inside : (v : ℕ) → (head_at heads v).start + 16 * (head_at heads v).units ≤ length pool
  pub apart : (v w : ℕ) → (v ≡ w → ⊥) → AreDisjointParts (head_at heads v).start (16 * (head_at heads v).units) (head_at heads w).start (16 * (head_at heads w).units)
  pub owned : (v : ℕ) → 64 < (head_at heads v).len → v < length long
