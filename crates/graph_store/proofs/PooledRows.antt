-- The lists in a pool: how each is read, and what a change of a part of the pool or of one head leaves.
use Rattle.graph_store.proofs.Prelude.{◌≡◌, ◌≢◌, ℕ, ◌+◌, ◌*◌, ◌-◌, ◌<◌, ◌≤◌, List, [], length, drop, get_or, set, sym, subst, ap, ◌∙◌, arith, ⊎_elim, cases_lt, cases_eq, Vec, Global, insert, remove, ext_get_or, get_or-take, get_or-drop, length-take-le, get_or_default, length-set, get_or_past, get_or-set_same, get_or-set_other, length-insert, get_or-insert_below, get_or-insert_at, get_or-insert_above, length-remove, get_or-remove_below, get_or-remove_above, length-map-range_with_len, get_or-map-range_with_len, lt-ltb, le-ltb, cond, contents, row_at, Head, no_head, row_of, room_of, spare_at, head_at, names_at, AreDisjointParts, IsPool}
use Rattle.graph_store.specs.RowPools.{lists_of, rooms_of}
use Rattle.std.proofs.Common.{length-take, length-drop, length-append}
use Rattle.std.proofs.lemmas.List.{get_or-append_right, get_or_append_left}
use borrow.Rule.Slice.PartMut.{put_mid}

-- there is a list for each head
pub length_lists : (heads : List Head) (pool : List ℕ) (long : List (Vec ℕ Global)) → length (lists_of heads pool long) ≡ length heads
unfolding lists_of
length_lists heads pool long = length-map-range_with_len (λ v. row_of pool long (head_at heads v) v) 0 (length heads)

-- it is the row that the head stands for
pub list_read : (heads : List Head) (pool : List ℕ) (long : List (Vec ℕ Global)) (v : ℕ) → v < length heads → row_at (lists_of heads pool long) v ≡ row_of pool long (head_at heads v) v
unfolding lists_of
list_read heads pool long v inside = get_or-map-range_with_len (λ w. row_of pool long (head_at heads w) w) 0 (length heads) v v [] inside (omega arith)

length_rooms : (heads : List Head) (long : List (Vec ℕ Global)) → length (rooms_of heads long) ≡ length heads
unfolding rooms_of
length_rooms heads long = length-map-range_with_len (λ v. room_of long (head_at heads v) v) 0 (length heads)

-- the room in a list
pub room_read : (heads : List Head) (long : List (Vec ℕ Global)) (v : ℕ) → v < length heads → get_or (rooms_of heads long) v 0 ≡ room_of long (head_at heads v) v
unfolding rooms_of
room_read heads long v inside = get_or-map-range_with_len (λ w. room_of long (head_at heads w) w) 0 (length heads) v v 0 inside (omega arith)

-- a list with room has a head
pub room_inside : (heads : List Head) (long : List (Vec ℕ Global)) (v : ℕ) → 0 < get_or (rooms_of heads long) v 0 → v < length heads
room_inside heads long v some = grind (arith, cases_lt, get_or_past, length_rooms)

-- lists that keep their room
pub rooms_kept : (heads heads' : List Head) (long long' : List (Vec ℕ Global)) → length heads' ≡ length heads → ((v : ℕ) → v < length heads → 0 < room_of long (head_at heads v) v → 0 < room_of long' (head_at heads' v) v) → (v : ℕ) → 0 < get_or (rooms_of heads long) v 0 → 0 < get_or (rooms_of heads' long') v 0
rooms_kept heads heads' long long' same kept v some = grind (arith, room_inside, room_read)

-- all lists are as they were
pub lists_kept : (heads heads' : List Head) (pool pool' : List ℕ) (long long' : List (Vec ℕ Global)) → length heads' ≡ length heads → ((v : ℕ) → v < length heads → row_of pool' long' (head_at heads' v) v ≡ row_of pool long (head_at heads v) v) → lists_of heads' pool' long' ≡ lists_of heads pool long
lists_kept heads heads' pool pool' long long' same kept =
    ext_get_or [] (lists_of heads' pool' long') (lists_of heads pool long) (grind (arith, length_lists)) (λ v lt. grind (arith, length_lists, list_read))

-- one list has changed
pub lists_set : (heads heads' : List Head) (pool pool' : List ℕ) (long long' : List (Vec ℕ Global)) (v : ℕ) (l : List ℕ) → length heads' ≡ length heads → v < length heads → row_of pool' long' (head_at heads' v) v ≡ l → ((w : ℕ) → w ≢ v → w < length heads → row_of pool' long' (head_at heads' w) w ≡ row_of pool long (head_at heads w) w) → lists_of heads' pool' long' ≡ set (lists_of heads pool long) v l
lists_set heads heads' pool pool' long long' v l same inside here kept =
    ext_get_or [] (lists_of heads' pool' long') (set (lists_of heads pool long) v l) (grind (arith, length-set, length_lists))
    (λ w lt. grind (arith, cases_eq, get_or-set_other, get_or-set_same, length-set, length_lists, list_read))

-- how many names a part of a pool has
pub names_len : (pool : List ℕ) (start len : ℕ) → start + len ≤ length pool → length (names_at pool start len) ≡ len
names_len pool start len inside = length-take-le len (drop start pool) (let rest = length-drop start pool in omega (arith, rest, inside))

-- a name in a part of a pool
pub name_read : (pool : List ℕ) (start len k : ℕ) → k < len → get_or (names_at pool start len) k 0 ≡ get_or pool (start + k) 0
name_read pool start len k lt = get_or-take len (drop start pool) k 0 lt ∙ get_or-drop start pool k 0

-- a part of a pool is as it was
pub names_same : (pool pool' : List ℕ) (start len : ℕ) → length pool' ≡ length pool → ((k : ℕ) → start ≤ k → k < start + len → get_or pool' k 0 ≡ get_or pool k 0) → names_at pool' start len ≡ names_at pool start len
names_same pool pool' start len as_long same =
    ext_get_or 0 (names_at pool' start len) (names_at pool start len) (omega (arith, length-take {A = ℕ}, length-drop {A = ℕ}, as_long))
    (λ k lt. let low : k < len = omega (arith, lt, length-take len (drop start pool')) in grind (arith, name_read))

-- a pool after a write to `size` names from `from` on, which are `part` then
pub record IsWritten (pool pool' part : List ℕ) (from size : ℕ) : Type 0 where
  pub same : length pool' ≡ length pool
  pub below : (i : ℕ) → i < from → get_or pool' i 0 ≡ get_or pool i 0
  pub within : (i : ℕ) → i < size → get_or pool' (from + i) 0 ≡ get_or part i 0
  pub past : (i : ℕ) → from + size ≤ i → get_or pool' i 0 ≡ get_or pool i 0

pub is_written : (pool part : List ℕ) (from size : ℕ) → from + size ≤ length pool → length part ≡ size → IsWritten pool (put_mid from size pool part) part from size
is_written pool part from size inside len =
    grind (arith, get_or-append_right, get_or-drop, get_or-take, get_or_append_left, length-append, length-drop, length-take)

-- a name that has a list has a head
pub has_head : (heads : List Head) (pool : List ℕ) (long : List (Vec ℕ Global)) (lists : List (List ℕ)) (v : ℕ) → lists_of heads pool long ≡ lists → v < length lists → v < length heads
has_head heads pool long lists v seen inside =
    let len = length_lists heads pool long in
    let same = ap length seen in
    omega (arith, len, same, inside)

-- a short row lies in its block, and that in the pool
pub row_inside : (heads : List Head) (pool : List ℕ) (long : List (Vec ℕ Global)) (v : ℕ) → IsPool heads pool long → (head_at heads v).len ≤ 64 → (head_at heads v).start + (head_at heads v).len ≤ length pool
row_inside heads pool long v good few =
    let fits = good.fits v few in
    let inside = good.inside v in
    omega (arith, fits, inside)

-- a head that was read
pub record IsHead (heads : List Head) (v : ℕ) (h : Head) : Type 0 where
  pub inside : v < length heads
  pub is : h ≡ head_at heads v

pub head_read : (heads : List Head) (pool : List ℕ) (long : List (Vec ℕ Global)) (lists : List (List ℕ)) (h : Head) (p v : ℕ) → lists_of heads pool long ≡ lists → v < length lists → p ≡ v → h ≡ get_or heads p h → IsHead heads v h
head_read heads pool long lists h p v seen inside same is =
    let here = has_head heads pool long lists v seen inside in
    record { inside = here; is = is ∙ ap (λ k. get_or heads k h) same ∙ get_or_default heads v h no_head here }

-- a long row's vector is there
pub head_owned : (heads : List Head) (pool : List ℕ) (long : List (Vec ℕ Global)) (v : ℕ) (h : Head) → IsPool heads pool long → IsHead heads v h → 64 < h.len → v < length long
head_owned heads pool long v h good read many = good.owned v (subst (λ (x : Head). 64 < x.len) read.is many)

-- a short row lies in its block, and that in the pool
pub head_inside : (heads : List Head) (pool : List ℕ) (long : List (Vec ℕ Global)) (v : ℕ) (h : Head) → IsPool heads pool long → IsHead heads v h → h.len ≤ 64 → h.start + h.len ≤ length pool
head_inside heads pool long v h good read few =
    subst (λ (x : Head). x.start + x.len ≤ length pool) (sym read.is) (row_inside heads pool long v good (subst (λ (x : Head). x.len ≤ 64) read.is few))

-- the row that a head stands for is the list
pub row_seen : (heads : List Head) (pool : List ℕ) (long : List (Vec ℕ Global)) (lists : List (List ℕ)) (v : ℕ) (h : Head) → IsHead heads v h → lists_of heads pool long ≡ lists → row_of pool long h v ≡ row_at lists v
row_seen heads pool long lists v h read seen = ap (λ x. row_of pool long x v) read.is ∙ sym (list_read heads pool long v read.inside) ∙ ap (λ l. row_at l v) seen

-- a short row is in the pool
pub short_is : (pool : List ℕ) (long : List (Vec ℕ Global)) (h : Head) (v : ℕ) → h.len ≤ 64 → row_of pool long h v ≡ names_at pool h.start h.len
short_is pool long h v few = ap (λ t. cond t (row_at (contents long) v) (names_at pool h.start h.len)) (le-ltb 64 h.len few)

-- a long row has a vector
pub long_is : (pool : List ℕ) (long : List (Vec ℕ Global)) (h : Head) (v : ℕ) → 64 < h.len → row_of pool long h v ≡ row_at (contents long) v
long_is pool long h v many = ap (λ t. cond t (row_at (contents long) v) (names_at pool h.start h.len)) (lt-ltb 64 h.len many)

-- and so is its room
pub short_room : (long : List (Vec ℕ Global)) (h : Head) (v : ℕ) → h.len ≤ 64 → room_of long h v ≡ 16 * h.units - h.len
short_room long h v few = ap (λ t. cond t (spare_at long v) (16 * h.units - h.len)) (le-ltb 64 h.len few)

pub long_room : (long : List (Vec ℕ Global)) (h : Head) (v : ℕ) → 64 < h.len → room_of long h v ≡ spare_at long v
long_room long h v many = ap (λ t. cond t (spare_at long v) (16 * h.units - h.len)) (lt-ltb 64 h.len many)

-- what lies apart from a part that was written to is as it was
pub apart_same : (pool pool' part : List ℕ) (from size start len start' len' : ℕ) → IsWritten pool pool' part from size → start ≤ from → from + size ≤ start + len → AreDisjointParts start' len' start len → names_at pool' start' len' ≡ names_at pool start' len'
apart_same pool pool' part from size start len start' len' new low high apart =
    names_same pool pool' start' len' new.same (λ k ge lt. grind (arith, new.below k, new.past k))

-- a name was put into a row
pub put_in_row : (pool pool' part : List ℕ) (start len place name size : ℕ) → place ≤ len → start + len < length pool → place + size ≡ len + 1 → IsWritten pool pool' part (start + place) size → get_or part 0 0 ≡ name → ((i : ℕ) → i + 1 < size → get_or part (i + 1) 0 ≡ get_or pool (start + place + i) 0) → names_at pool' start (len + 1) ≡ insert (names_at pool start len) place name
put_in_row pool pool' part start len place name size inside room all new first later =
    let row = names_at pool start len in
    let old_len = names_len pool start len (omega (arith, room)) in
    let new_len = names_len pool' start (len + 1) (let same = new.same in omega (arith, room, same)) in
    let le : place ≤ length row = omega (arith, old_len, inside) in
    let put_len = length-insert row place name le in
    ext_get_or 0 (names_at pool' start (len + 1)) (insert row place name) (omega (arith, old_len, new_len, put_len))
    (λ k lt.
    let low : k < len + 1 = omega (arith, lt, new_len) in
    name_read pool' start (len + 1) k low
    ∙ ⊎_elim
    (λ (below : k < place).
    new.below (start + k) (omega (arith, below)) ∙ sym (name_read pool start len k (omega (arith, below, inside))) ∙ sym (get_or-insert_below row place name 0 k below le))
    (λ (ge : place ≤ k).
    ⊎_elim
    (λ (past : place < k).
    ap (λ i. get_or pool' i 0) (let e : start + k ≡ start + place + (k - place) = omega (arith, ge) in e)
    ∙ new.within (k - place) (omega (arith, ge, low, all))
    ∙ ap (λ i. get_or part i 0) (let e : k - place ≡ k - place - 1 + 1 = omega (arith, past) in e)
    ∙ later (k - place - 1) (omega (arith, past, low, all))
    ∙ ap (λ i. get_or pool i 0) (let e : start + place + (k - place - 1) ≡ start + (k - 1) = omega (arith, past) in e)
    ∙ sym (name_read pool start len (k - 1) (omega (arith, past, low)))
    ∙ sym (get_or-insert_above row place name 0 (k - 1) (omega (arith, past)) le)
    ∙ ap (λ i. get_or (insert row place name) i 0) (let e : k - 1 + 1 ≡ k = omega (arith, past) in e))
    (λ (here : k ≤ place).
    ap (λ i. get_or pool' i 0) (let e : start + k ≡ start + place + 0 = omega (arith, ge, here) in e)
    ∙ new.within 0 (omega (arith, all, inside))
    ∙ first
    ∙ sym (get_or-insert_at row place name 0 le)
    ∙ ap (λ i. get_or (insert row place name) i 0) (let e : place ≡ k = omega (arith, ge, here) in e))
    (cases_lt place k))
    (cases_lt k place))

-- a name was taken out of a row
pub take_from_row : (pool pool' part : List ℕ) (start len place size : ℕ) → place < len → start + len ≤ length pool → place + size ≡ len → IsWritten pool pool' part (start + place) size → ((i : ℕ) → i + 1 < size → get_or part i 0 ≡ get_or pool (start + place + (i + 1)) 0) → names_at pool' start (len - 1) ≡ remove (names_at pool start len) place
take_from_row pool pool' part start len place size inside room all new later =
    let old_len = names_len pool start len room in
    let new_len = names_len pool' start (len - 1) (let same = new.same in omega (arith, room, same)) in
    ext_get_or 0 (names_at pool' start (len - 1)) (remove (names_at pool start len) place) (grind (arith, length-remove))
    (λ k lt. grind (arith, cases_lt, get_or-remove_above, get_or-remove_below, later (k - place), name_read, new.below (start + k), new.within (k - place)))
