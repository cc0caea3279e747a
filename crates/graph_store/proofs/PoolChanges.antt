-- What a change of one head, of a part of the pool or of one vector does to the lists, the room and the
-- invariant of a pool.
use Rattle.graph_store.proofs.Prelude.{◌≡◌, ◌≢◌, ℕ, ◌+◌, ◌*◌, ◌-◌, ◌<◌, ◌≤◌, List, [], map, length, get_or, set, cond, replicate, sym, refl, ap, subst, ◌∙◌, arith, ⊎_elim, cases_lt, cases_eq, Vec, Global, vec_len, vec_capacity, ext_get_or, get_or-replicate, length-replicate, length-set, get_or-map, get_or-set_same, get_or-set_other, range_with_len, contents, row_at, Head, no_head, row_of, room_of, spare_at, head_at, is_long, names_at, AreDisjointParts, IsPool}
use Rattle.graph_store.specs.RowPools.{lists_of, rooms_of}
use Rattle.graph_store.proofs.Contents.{row_read, row_elsewhere, row_written}
use Rattle.graph_store.proofs.PooledRows.{IsHead, length_lists, list_read, lists_kept, lists_set, names_len, room_read, rooms_kept, room_inside, row_inside, head_inside, head_owned, row_seen, short_is, long_is, short_room, long_room}

-- what holds of the new head, and of all others, holds of each head
each_head : (P : ℕ → Head → Type 0) (heads : List Head) (v : ℕ) (h : Head) → v < length heads → P v h → ((w : ℕ) → w ≢ v → P w (head_at heads w)) → (w : ℕ) → P w (head_at (set heads v h) w)
each_head P heads v h inside here others w =
    ⊎_elim
    (λ (e : w ≡ v). subst (λ k. P k (head_at (set heads v h) k)) (sym e) (subst (P v) (sym (get_or-set_same heads v h no_head inside)) here))
    (λ (apart : w ≢ v). subst (P w) (sym (get_or-set_other heads v w h no_head apart)) (others w apart))
    (cases_eq w v)

-- a row is as it was if its part of the pool is, or its vector
row_kept : (pool pool' : List ℕ) (long long' : List (Vec ℕ Global)) (h : Head) (v : ℕ) → (h.len ≤ 64 → names_at pool' h.start h.len ≡ names_at pool h.start h.len) → (64 < h.len → row_at (contents long') v ≡ row_at (contents long) v) → row_of pool' long' h v ≡ row_of pool long h v
row_kept pool pool' long long' h v short many = grind (arith, cases_lt, long_is, short_is)

-- a list keeps its room if its vector does
room_kept : (long long' : List (Vec ℕ Global)) (h : Head) (v : ℕ) → (64 < h.len → 0 < spare_at long v → 0 < spare_at long' v) → 0 < room_of long h v → 0 < room_of long' h v
room_kept long long' h v kept some = grind (arith, cases_lt, long_room, short_room)

-- vectors with the same names stand for the same lists
pub long_same : (heads : List Head) (pool : List ℕ) (long long' : List (Vec ℕ Global)) → contents long' ≡ contents long → lists_of heads pool long' ≡ lists_of heads pool long
unfolding lists_of
long_same heads pool long long' same = ap (λ (l : List (List ℕ)). map (λ v. cond (is_long (head_at heads v)) (row_at l v) (names_at pool (head_at heads v).start (head_at heads v).len)) (range_with_len 0 (length heads))) same

-- a vector that has grown has room
pub long_room_made : (heads : List Head) (long : List (Vec ℕ Global)) (v : ℕ) (h : Head) (x : Vec ℕ Global) → IsHead heads v h → 64 < h.len → v < length long → vec_len x + 1 ≤ vec_capacity x → 0 < get_or (rooms_of heads (set long v x)) v 0
long_room_made heads long v h x head many owned room =
    let read = room_read heads (set long v x) v head.inside in
    let is = long_room (set long v x) h v many in
    let same = ap (λ (k : Head). room_of (set long v x) k v) head.is in
    let there = row_written long v x owned in
    omega (arith, read, is, same, there.1, room)

-- and all others keep theirs
pub long_room_kept : (heads : List Head) (pool : List ℕ) (long : List (Vec ℕ Global)) (v : ℕ) (d x : Vec ℕ Global) → IsPool heads pool long → v < length long → vec_len x ≡ vec_len (get_or long v d) → vec_capacity (get_or long v d) ≤ vec_capacity x → (w : ℕ) → 0 < get_or (rooms_of heads long) w 0 → 0 < get_or (rooms_of heads (set long v x)) w 0
long_room_kept heads pool long v d x good owned len capacity =
    rooms_kept heads heads long (set long v x) refl (λ w inside.
    room_kept long (set long v x) (head_at heads w) w (λ lt some.
    ⊎_elim
    (λ (e : w ≡ v).
    let before = ap (spare_at long) e ∙ get_or-map (λ (row : Vec ℕ Global). vec_capacity row - vec_len row) long v d 0 owned in
    let after = ap (spare_at (set long v x)) e ∙ (row_written long v x owned).1 in
    omega (arith, before, after, len, capacity, some))
    (λ (apart : w ≢ v). let same = (row_elsewhere long v w x apart (good.owned w lt)).1 in omega (arith, same, some))
    (cases_eq w v)))

-- other vectors keep their room if one is written
pub long_rooms_elsewhere : (heads : List Head) (pool : List ℕ) (long : List (Vec ℕ Global)) (v : ℕ) (x : Vec ℕ Global) → IsPool heads pool long → (w : ℕ) → w ≢ v → 0 < get_or (rooms_of heads long) w 0 → 0 < get_or (rooms_of heads (set long v x)) w 0
long_rooms_elsewhere heads pool long v x good w apart some =
    let inside = room_inside heads long w some in
    let before = room_read heads long w inside in
    let after = room_read heads (set long v x) w inside in
    let kept = room_kept long (set long v x) (head_at heads w) w (λ lt spare. let same = (row_elsewhere long v w x apart (good.owned w lt)).1 in omega (arith, same, spare)) (omega (arith, before, some)) in
    omega (arith, after, kept)

-- a changed vector changes its list alone
pub long_changed : (heads : List Head) (pool : List ℕ) (long : List (Vec ℕ Global)) (lists : List (List ℕ)) (v : ℕ) (h : Head) (d x : Vec ℕ Global) (change : List ℕ → List ℕ) → IsPool heads pool long → lists_of heads pool long ≡ lists → IsHead heads v h → 64 < h.len → x.items ≡ change (get_or long v d).items → lists_of heads pool (set long v x) ≡ set lists v (change (row_at lists v))
long_changed heads pool long lists v h d x change good seen head many after =
    let owned = head_owned heads pool long v h good head many in
    let there = get_or-map (λ (row : Vec ℕ Global). row.items) long v d [] owned in
    let row = row_seen heads pool long lists v h head seen in
    lists_set heads heads pool pool long (set long v x) v (change (row_at lists v)) refl head.inside
    (ap (λ (k : Head). row_of pool (set long v x) k v) (sym head.is) ∙ long_is pool (set long v x) h v many ∙ (row_written long v x owned).0 ∙ after ∙ ap change (sym there ∙ sym (long_is pool long h v many) ∙ row))
    (λ w apart inside. row_kept pool pool long (set long v x) (head_at heads w) w (λ _. refl) (λ lt. (row_elsewhere long v w x apart (good.owned w lt)).0))
    ∙ ap (λ l. set l v (change (row_at lists v))) seen

-- the names at a head's place are its list
pub names_seen : (heads : List Head) (pool : List ℕ) (long : List (Vec ℕ Global)) (lists : List (List ℕ)) (v : ℕ) (h : Head) → lists_of heads pool long ≡ lists → IsHead heads v h → h.len ≤ 64 → names_at pool h.start h.len ≡ row_at lists v
names_seen heads pool long lists v h seen head few = sym (short_is pool long h v few) ∙ row_seen heads pool long lists v h head seen

-- a block apart from another holds the row of its head
pub block_apart : (heads : List Head) (pool : List ℕ) (long : List (Vec ℕ Global)) (v w : ℕ) (h : Head) (len : ℕ) → IsPool heads pool long → IsHead heads v h → w ≢ v → len ≤ 16 * h.units → (head_at heads w).len ≤ 64 → AreDisjointParts (head_at heads w).start (head_at heads w).len h.start len
block_apart heads pool long v w h len good head apart fits few = grind (arith, good.apart w v, good.fits w)

-- a changed part of the pool changes the list of its head alone
pub block_changed : (heads : List Head) (pool pool' : List ℕ) (long : List (Vec ℕ Global)) (lists : List (List ℕ)) (v : ℕ) (h : Head) (len size : ℕ) (row : List ℕ) → IsPool heads pool long → lists_of heads pool long ≡ lists → IsHead heads v h → len ≤ 64 → size ≤ 16 * h.units → names_at pool' h.start len ≡ row → ((s n : ℕ) → AreDisjointParts s n h.start size → names_at pool' s n ≡ names_at pool s n) → lists_of (set heads v (record { start = h.start; len = len; units = h.units })) pool' long ≡ set lists v row
block_changed heads pool pool' long lists v h len size row good seen head few fits is kept =
    let h' : Head = record { start = h.start; len = len; units = h.units } in
    let heads' = set heads v h' in
    lists_set heads heads' pool pool' long long v row (length-set heads v h') head.inside
    (ap (λ (k : Head). row_of pool' long k v) (get_or-set_same heads v h' no_head head.inside) ∙ short_is pool' long h' v few ∙ is)
    (λ w apart inside.
    ap (λ (k : Head). row_of pool' long k w) (get_or-set_other heads v w h' no_head apart)
    ∙ row_kept pool pool' long long (head_at heads w) w (λ le. kept (head_at heads w).start (head_at heads w).len (block_apart heads pool long v w h size good head apart fits le)) (λ _. refl))
    ∙ ap (λ l. set l v row) seen

-- a head with another length keeps the invariant
pub block_kept : (heads : List Head) (pool pool' : List ℕ) (long : List (Vec ℕ Global)) (v : ℕ) (h : Head) (len : ℕ) → IsPool heads pool long → IsHead heads v h → length pool' ≡ length pool → len ≤ 64 → len ≤ 16 * h.units → IsPool (set heads v (record { start = h.start; len = len; units = h.units })) pool' long
block_kept heads pool pool' long v h len good head same few fits =
    grind (arith, cases_eq, get_or-set_other, get_or-set_same)

-- other lists keep their room if one head changes
pub head_rooms_elsewhere : (heads : List Head) (long : List (Vec ℕ Global)) (v : ℕ) (h' : Head) (w : ℕ) → w ≢ v → 0 < get_or (rooms_of heads long) w 0 → 0 < get_or (rooms_of (set heads v h') long) w 0
head_rooms_elsewhere heads long v h' w apart some = grind (arith, get_or-set_other, length-set, room_inside, room_read)

-- a row moved into a larger block at the end of a pool leaves a pool
pub moved_kept : (heads : List Head) (pool pool' : List ℕ) (long : List (Vec ℕ Global)) (v : ℕ) (h : Head) → IsPool heads pool long → IsHead heads v h → h.len ≤ 64 → h.units < 4 → length pool + 16 * (h.units + 1) ≤ length pool' → IsPool (set heads v (record { start = length pool; len = h.len; units = h.units + 1 })) pool' long
moved_kept heads pool pool' long v h good head few small room =
    grind (arith, cases_eq, get_or-set_other, get_or-set_same)

-- with the same lists
pub moved_same : (heads : List Head) (pool pool' : List ℕ) (long : List (Vec ℕ Global)) (v : ℕ) (h h' : Head) → IsPool heads pool long → IsHead heads v h → h.len ≤ 64 → h'.len ≡ h.len → names_at pool' h'.start h.len ≡ names_at pool h.start h.len → ((s n : ℕ) → s + n ≤ length pool → names_at pool' s n ≡ names_at pool s n) → lists_of (set heads v h') pool' long ≡ lists_of heads pool long
moved_same heads pool pool' long v h h' good head few same row kept =
    lists_kept heads (set heads v h') pool pool' long long (length-set heads v h') (λ w inside.
    each_head (λ k x. row_of pool' long x k ≡ row_of pool long (head_at heads k) k) heads v h' head.inside
    (short_is pool' long h' v (omega (arith, few, same)) ∙ ap (names_at pool' h'.start) same ∙ row ∙ sym (short_is pool long h v few) ∙ ap (λ (k : Head). row_of pool long k v) head.is)
    (λ k _. row_kept pool pool' long long (head_at heads k) k (λ le. kept (head_at heads k).start (head_at heads k).len (row_inside heads pool long k good le)) (λ _. refl))
    w)

-- a longer pool stands for the same lists
pub longer_same : (heads : List Head) (pool pool' : List ℕ) (long : List (Vec ℕ Global)) → IsPool heads pool long → ((s n : ℕ) → s + n ≤ length pool → names_at pool' s n ≡ names_at pool s n) → lists_of heads pool' long ≡ lists_of heads pool long
longer_same heads pool pool' long good kept =
    lists_kept heads heads pool pool' long long refl (λ w inside.
    row_kept pool pool' long long (head_at heads w) w (λ le. kept (head_at heads w).start (head_at heads w).len (row_inside heads pool long w good le)) (λ _. refl))

-- a larger block has room, and all others keep theirs
pub moved_room : (heads : List Head) (long : List (Vec ℕ Global)) (v : ℕ) (h' : Head) → v < length heads → h'.len ≤ 64 → h'.len < 16 * h'.units → 0 < get_or (rooms_of (set heads v h') long) v 0
moved_room heads long v h' inside few room = grind (arith, get_or-set_same, length-set, room_read, short_room)

pub rooms_with : (heads : List Head) (long long' : List (Vec ℕ Global)) (v : ℕ) (h' : Head) → v < length heads → 0 < get_or (rooms_of (set heads v h') long') v 0 → ((w : ℕ) → w ≢ v → 64 < (head_at heads w).len → 0 < spare_at long w → 0 < spare_at long' w) → (w : ℕ) → 0 < get_or (rooms_of heads long) w 0 → 0 < get_or (rooms_of (set heads v h') long') w 0
rooms_with heads long long' v h' here made kept w some =
    grind (arith, cases_eq, get_or-set_other, length-set, room_inside, room_kept, room_read)

-- a row that has a vector of its own now is as it was, and so are all others
pub out_same : (heads : List Head) (pool : List ℕ) (long long' : List (Vec ℕ Global)) (v : ℕ) (h h' : Head) → IsPool heads pool long → IsHead heads v h → h.len ≤ 64 → 64 < h'.len → row_at (contents long') v ≡ names_at pool h.start h.len → ((w : ℕ) → w ≢ v → w < length long → row_at (contents long') w ≡ row_at (contents long) w) → lists_of (set heads v h') pool long' ≡ lists_of heads pool long
out_same heads pool long long' v h h' good head few many row kept =
    lists_kept heads (set heads v h') pool pool long long' (length-set heads v h') (λ w inside.
    ⊎_elim
    (λ (e : w ≡ v).
    subst (λ k. row_of pool long' (head_at (set heads v h') k) k ≡ row_of pool long (head_at heads k) k) (sym e)
    (ap (λ (k : Head). row_of pool long' k v) (get_or-set_same heads v h' no_head head.inside) ∙ long_is pool long' h' v many ∙ row ∙ sym (short_is pool long h v few) ∙ ap (λ (k : Head). row_of pool long k v) head.is))
    (λ (apart : w ≢ v).
    ap (λ (k : Head). row_of pool long' k w) (get_or-set_other heads v w h' no_head apart)
    ∙ row_kept pool pool long long' (head_at heads w) w (λ _. refl) (λ lt. kept w apart (good.owned w lt)))
    (cases_eq w v))

pub out_room : (heads : List Head) (long : List (Vec ℕ Global)) (v : ℕ) (h' : Head) → v < length heads → 64 < h'.len → 0 < spare_at long v → 0 < get_or (rooms_of (set heads v h') long) v 0
out_room heads long v h' inside many room = grind (arith, get_or-set_same, length-set, long_room, room_read)

-- vectors that none of these rows has may change
pub others_same : (heads : List Head) (pool : List ℕ) (long long' : List (Vec ℕ Global)) (v : ℕ) (h : Head) → IsPool heads pool long → IsHead heads v h → h.len ≤ 64 → ((w : ℕ) → w ≢ v → w < length long → row_at (contents long') w ≡ row_at (contents long) w) → lists_of heads pool long' ≡ lists_of heads pool long
others_same heads pool long long' v h good head few kept =
    lists_kept heads heads pool pool long long' refl (λ w inside.
    row_kept pool pool long long' (head_at heads w) w (λ _. refl) (λ lt. kept w (λ e. let short = ap (λ k. (head_at heads k).len) e in let is = ap (λ (k : Head). k.len) head.is in omega (arith, lt, short, is, few)) (good.owned w lt)))

pub others_room : (heads : List Head) (pool : List ℕ) (long long' : List (Vec ℕ Global)) (v : ℕ) (h : Head) → IsPool heads pool long → IsHead heads v h → h.len ≤ 64 → ((w : ℕ) → w ≢ v → w < length long → spare_at long' w ≡ spare_at long w) → (w : ℕ) → 0 < get_or (rooms_of heads long) w 0 → 0 < get_or (rooms_of heads long') w 0
others_room heads pool long long' v h good head few kept =
    rooms_kept heads heads long long' refl (λ w inside.
    room_kept long long' (head_at heads w) w (λ lt some.
    let same = kept w (λ e. let short = ap (λ k. (head_at heads k).len) e in let is = ap (λ (k : Head). k.len) head.is in omega (arith, lt, short, is, few)) (good.owned w lt) in
    omega (arith, same, some)))

-- the room of a list that is not long
pub room_short : (heads : List Head) (long : List (Vec ℕ Global)) (v : ℕ) (h : Head) → IsHead heads v h → h.len ≤ 64 → get_or (rooms_of heads long) v 0 ≡ 16 * h.units - h.len
room_short heads long v h head few = room_read heads long v head.inside ∙ ap (λ (k : Head). room_of long k v) (sym head.is) ∙ short_room long h v few

-- and that of a long one
pub room_long : (heads : List Head) (long : List (Vec ℕ Global)) (v : ℕ) (h : Head) → IsHead heads v h → 64 < h.len → get_or (rooms_of heads long) v 0 ≡ spare_at long v
room_long heads long v h head many = room_read heads long v head.inside ∙ ap (λ (k : Head). room_of long k v) (sym head.is) ∙ long_room long h v many

-- heads without names stand for empty lists
pub no_lists : (count : ℕ) → lists_of (replicate count no_head) [] [] ≡ replicate count []
no_lists count =
    let heads = replicate count no_head in
    let none : List ℕ = [] in
    let len = length_lists heads [] [] in
    let len' = length-replicate count no_head in
    let len'' = length-replicate count none in
    ext_get_or [] (lists_of heads [] []) (replicate count []) (omega (arith, len, len', len''))
    (λ v lt.
    let inside : v < count = omega (arith, lt, len, len') in
    list_read heads [] [] v (omega (arith, inside, len'))
    ∙ ap (λ (k : Head). row_of [] [] k v) (get_or-replicate count v no_head no_head inside)
    ∙ sym (get_or-replicate count v none none inside))

-- a block lies in the pool
pub block_inside : (heads : List Head) (pool : List ℕ) (long : List (Vec ℕ Global)) (v : ℕ) (h : Head) → IsPool heads pool long → IsHead heads v h → h.start + 16 * h.units ≤ length pool
block_inside heads pool long v h good head = subst (λ (k : Head). k.start + 16 * k.units ≤ length pool) (sym head.is) (good.inside v)

-- a short row with room can take one name more
pub has_room : (heads : List Head) (pool : List ℕ) (long : List (Vec ℕ Global)) (room : List ℕ) (v : ℕ) (h : Head) → IsPool heads pool long → rooms_of heads long ≡ room → IsHead heads v h → h.len ≤ 64 → 0 < get_or room v 0 → (h.len + 1 ≤ 64) × (h.len + 1 ≤ 16 * h.units)
has_room heads pool long room v h good seen head few some =
    let is = room_short heads long v h head few in
    let same = ap (λ (l : List ℕ). get_or l v 0) seen in
    let small = good.small v in
    let units = ap (λ (k : Head). k.units) head.is in (omega (arith, is, same, small, units, some), omega (arith, is, same, some))

-- how many names a short row has
pub short_len : (heads : List Head) (pool : List ℕ) (long : List (Vec ℕ Global)) (lists : List (List ℕ)) (v : ℕ) (h : Head) → IsPool heads pool long → lists_of heads pool long ≡ lists → IsHead heads v h → h.len ≤ 64 → length (row_at lists v) ≡ h.len
short_len heads pool long lists v h good seen head few =
    ap length (sym (names_seen heads pool long lists v h seen head few)) ∙ names_len pool h.start h.len (head_inside heads pool long v h good head few)

-- a long row is the vector that was read
pub long_read : (heads : List Head) (pool : List ℕ) (long : List (Vec ℕ Global)) (lists : List (List ℕ)) (v p : ℕ) (h : Head) (r : Vec ℕ Global) → IsPool heads pool long → lists_of heads pool long ≡ lists → IsHead heads v h → 64 < h.len → p ≡ v → r ≡ get_or long p r → r.items ≡ row_at lists v
long_read heads pool long lists v p h r good seen head many same is =
    row_read long long v p r refl same (head_owned heads pool long v h good head many) is ∙ sym (long_is pool long h v many) ∙ row_seen heads pool long lists v h head seen

-- and so is its room
pub long_spare : (heads : List Head) (pool : List ℕ) (long : List (Vec ℕ Global)) (room : List ℕ) (v p : ℕ) (h : Head) (r : Vec ℕ Global) → IsPool heads pool long → rooms_of heads long ≡ room → IsHead heads v h → 64 < h.len → p ≡ v → r ≡ get_or long p r → 0 < get_or room v 0 → vec_len r < vec_capacity r
long_spare heads pool long room v p h r good seen head many same is some =
    let all = ap (λ (l : List ℕ). get_or l v 0) seen in
    let here = room_long heads long v h head many in
    let read = get_or-map (λ (row : Vec ℕ Global). vec_capacity row - vec_len row) long v r 0 (head_owned heads pool long v h good head many) in
    let whole = ap (λ (row : Vec ℕ Global). vec_capacity row - vec_len row) (is ∙ ap (λ k. get_or long k r) same) in
    omega (arith, all, here, read, whole, some)

-- a short row fits its block
pub head_fits : (heads : List Head) (pool : List ℕ) (long : List (Vec ℕ Global)) (v : ℕ) (h : Head) → IsPool heads pool long → IsHead heads v h → h.len ≤ 64 → h.len ≤ 16 * h.units
head_fits heads pool long v h good head few = subst (λ (k : Head). k.len ≤ 64 → k.len ≤ 16 * k.units) (sym head.is) (good.fits v) few

-- a block has at most four units
pub head_units : (heads : List Head) (pool : List ℕ) (long : List (Vec ℕ Global)) (v : ℕ) (h : Head) → IsPool heads pool long → IsHead heads v h → h.units ≤ 4
head_units heads pool long v h good head = subst (λ (k : Head). k.units ≤ 4) (sym head.is) (good.small v)
