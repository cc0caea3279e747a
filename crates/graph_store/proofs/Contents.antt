-- The names in rows that are vectors, whatever their capacities.
use Rattle.graph_store.proofs.Prelude.{◌≡◌, ◌≢◌, set, length-set, get_or-set_same, get_or-set_other, ℕ, suc, ◌-◌, ◌<◌, ◌≤◌, List, [], length, get_or, sym, ap, ◌∙◌, ◌+◌, take, drop, ◌++◌, append_assoc, arith, Result, Ok, Err, MatchResult, remove, is_ok, vec_len, vec_capacity, Vec, Global, map-set_same, take-append-add, get_or-map, ext_get_or, get_or-take, get_or-drop, take_rest, length-take-le, take-take, take-append-le, drop-drop, contents, row_at, spare_at, has, IsPlaceOf, IsGapFor}
use Rattle.std.proofs.Common.{length-take, length-drop}
use Rattle.graph_store.proofs.AscendingLists.{there_at_place, absent_at_gap}

-- the names in the vector that was read at a place
pub row_read : (rows read : List (Vec ℕ Global)) (v p : ℕ) (r : Vec ℕ Global) → read ≡ rows → p ≡ v → v < length rows → r ≡ get_or read p r → r.items ≡ row_at (contents rows) v
row_read rows read v p r all same inside is =
    ap (λ (row : Vec ℕ Global). row.items) (is ∙ (λ i. get_or (all i) (same i) r)) ∙ sym (get_or-map (λ (row : Vec ℕ Global). row.items) rows v r [] inside)

-- a vector with the same names changes no names
pub contents_kept : (rows : List (Vec ℕ Global)) (p : ℕ) (d r : Vec ℕ Global) → r.items ≡ (get_or rows p d).items → contents (set rows p r) ≡ contents rows
contents_kept rows p d r same = map-set_same (λ (row : Vec ℕ Global). row.items) rows p r d same

-- two tables with the same vector at an index have the same names and the same room there
pub same_row : (old new : List (Vec ℕ Global)) (v : ℕ) (d : Vec ℕ Global) → v < length old → v < length new → get_or new v d ≡ get_or old v d → (row_at (contents new) v ≡ row_at (contents old) v) × (spare_at new v ≡ spare_at old v)
same_row old new v d inside inside' same = (
  get_or-map (λ (row : Vec ℕ Global). row.items) new v d [] inside' ∙ ap (λ (row : Vec ℕ Global). row.items) same ∙ sym (get_or-map (λ (row : Vec ℕ Global). row.items) old v d [] inside),
  get_or-map (λ (row : Vec ℕ Global). vec_capacity row - vec_len row) new v d 0 inside' ∙ ap (λ (row : Vec ℕ Global). vec_capacity row - vec_len row) same ∙ sym (get_or-map (λ (row : Vec ℕ Global). vec_capacity row - vec_len row) old v d 0 inside),
)

-- a vector written at an index changes no other
pub row_elsewhere : (rows : List (Vec ℕ Global)) (p v : ℕ) (x : Vec ℕ Global) → v ≢ p → v < length rows → (row_at (contents (set rows p x)) v ≡ row_at (contents rows) v) × (spare_at (set rows p x) v ≡ spare_at rows v)
row_elsewhere rows p v x apart inside = same_row rows (set rows p x) v x inside (grind (arith, length-set)) (get_or-set_other rows p v x x apart)

-- and its names and its room are what is there then
pub row_written : (rows : List (Vec ℕ Global)) (p : ℕ) (x : Vec ℕ Global) → p < length rows → (row_at (contents (set rows p x)) p ≡ x.items) × (spare_at (set rows p x) p ≡ vec_capacity x - vec_len x)
row_written rows p x inside =
    let len = length-set rows p x in
    let inside' : p < length (set rows p x) = omega (arith, len, inside) in
    let read = get_or-set_same rows p x x inside in (
      get_or-map (λ (row : Vec ℕ Global). row.items) (set rows p x) p x [] inside' ∙ ap (λ (row : Vec ℕ Global). row.items) read,
      get_or-map (λ (row : Vec ℕ Global). vec_capacity row - vec_len row) (set rows p x) p x 0 inside' ∙ ap (λ (row : Vec ℕ Global). vec_capacity row - vec_len row) read,
    )

-- a look-up finds what the table has
pub found : (row : List ℕ) (name : ℕ) (r : Result ℕ ℕ) → MatchResult r (IsPlaceOf row name) (IsGapFor row name) → is_ok r ≡ has row name
found row name (Ok i) place = sym (there_at_place row name i place)
found row name (Err i) gap = sym (absent_at_gap row name i gap)

-- names that moved down by one place
pub lower_by_one : (old new : List ℕ) → length new ≡ length old → ((k : ℕ) → k + 1 < length old → get_or new k 0 ≡ get_or old (k + 1) 0) → take (length old - 1) new ≡ drop 1 old
lower_by_one old new same moved =
    ext_get_or 0 (take (length old - 1) new) (drop 1 old) (omega (arith, length-take (length old - 1) new, length-drop 1 old))
    (λ k lt. let inside : k + 1 < length old = omega (arith, lt, length-take (length old - 1) new) in grind (arith, get_or-drop, get_or-take))

-- a name is removed if those after it moved down by one place and the last was dropped
pub taken_out : (row tail past rest : List ℕ) (len place : ℕ) → len ≡ length row → place < length row → length tail ≡ length (take (length row - place) (drop place row)) → take (length (take (length row - place) (drop place row)) - 1) tail ≡ drop 1 (take (length row - place) (drop place row)) → take (len - 1) (take len ((take place row ++ (tail ++ past)) ++ rest)) ≡ remove row place
taken_out row tail past rest len place whole inside as_long moved =
    let size : length (take (length row - place) (drop place row)) ≡ length row - place = ap length (take_rest row place) ∙ length-drop place row in
    let front : length (take place row) ≡ place = length-take-le place row (omega arith) in
    let ends : len - 1 ≡ length (take place row) + (length (take (length row - place) (drop place row)) - 1) = omega arith in
    let behind : place + 1 ≡ suc place = omega arith in
    let short : length (take (length row - place) (drop place row)) - 1 ≤ length tail = omega arith in
    take-take (len - 1) len _ (omega arith)
    ∙ ap (take (len - 1)) (append_assoc (take place row) (tail ++ past) rest ∙ ap (λ l. take place row ++ l) (append_assoc tail past rest))
    ∙ ap (λ n. take n (take place row ++ (tail ++ (past ++ rest)))) ends
    ∙ take-append-add (take place row) (tail ++ (past ++ rest)) _
    ∙ ap (λ l. take place row ++ l) (take-append-le _ tail (past ++ rest) short ∙ moved ∙ ap (drop 1) (take_rest row place) ∙ drop-drop 1 place row ∙ ap (λ n. drop n row) behind)
