use Rattle.graph_store.proofs.Prelude.{◌≡◌, ℕ, ◌+◌, ◌<◌, length, get_or, arith, ap, sym, subst, ◌∙◌, Vec, Global, with_items, with_items_is, RowLists, AreDisjointParts, IsPool, names_at, row_at, insert, set}
use Rattle.graph_store.specs.RowPools.{lists_of, rooms_of}
use Rattle.graph_store.proofs.PooledRows.{head_read, head_owned}
use Rattle.graph_store.proofs.PoolChanges.{long_changed, long_rooms_elsewhere, long_read, long_spare, block_changed, block_kept, block_inside, has_room, short_len, names_seen, head_rooms_elsewhere}
use Rattle.graph_store.proofs.row_pool.Rows.put_in.Goals as goal

pub index_mut-requires : goal.index_mut-requires
index_mut-requires c =
    let s = c.self.inside in
    let seen = ap (λ (r : RowLists). r.lists) c.self.view_is in
    let head = head_read s.heads.items s.pool.items s.long.items c.args.self.now.lists c.index-head.result.now c.place.result c.args.node seen c.requires.known c.place.ensures.same c.index-head.ensures in
    let owned = head_owned s.heads.items s.pool.items s.long.items c.args.node c.index-head.result.now c.self.invariant head c.if-head-gt-MOST_NAMES.true in
    omega (arith, owned, c.place-then-head-gt-MOST_NAMES.ensures.same)

pub put_at-requires : goal.put_at-requires
put_at-requires c =
    let s = c.self.inside in
    let seen = ap (λ (r : RowLists). r.lists) c.self.view_is in
    let head = head_read s.heads.items s.pool.items s.long.items c.args.self.now.lists c.index-head.result.now c.place.result c.args.node seen c.requires.known c.place.ensures.same c.index-head.ensures in
    let row = long_read s.heads.items s.pool.items s.long.items c.args.self.now.lists c.args.node c.place-then-head-gt-MOST_NAMES.result c.index-head.result.now c.index_mut.result.now c.self.invariant seen head c.if-head-gt-MOST_NAMES.true c.place-then-head-gt-MOST_NAMES.ensures.same c.index_mut.ensures.value in
    let inside = c.requires.inside in
    record {
      inside = omega (arith, ap length row, inside);
      room = long_spare s.heads.items s.pool.items s.long.items c.args.self.now.room c.args.node c.place-then-head-gt-MOST_NAMES.result c.index-head.result.now c.index_mut.result.now c.self.invariant (ap (λ (r : RowLists). r.room) c.self.view_is) head c.if-head-gt-MOST_NAMES.true c.place-then-head-gt-MOST_NAMES.ensures.same c.index_mut.ensures.value c.requires.room;
    }

pub returns-then-head-gt-MOST_NAMES : goal.returns-then-head-gt-MOST_NAMES
returns-then-head-gt-MOST_NAMES c =
    let s = c.self.inside in
    let seen = ap (λ (r : RowLists). r.lists) c.self.view_is in
    let head = head_read s.heads.items s.pool.items s.long.items c.args.self.now.lists c.index-head.result.now c.place.result c.args.node seen c.requires.known c.place.ensures.same c.index-head.ensures in
    let same = c.place-then-head-gt-MOST_NAMES.ensures.same in
    let r = c.index_mut.result.now in
    record {
      lists = ap (λ p. lists_of s.heads.items s.pool.items (set s.long.items p c.put_at.new.row)) same
          ∙ long_changed s.heads.items s.pool.items s.long.items c.args.self.now.lists c.args.node c.index-head.result.now r c.put_at.new.row (λ l. insert l c.args.place c.args.name) c.self.invariant seen head c.if-head-gt-MOST_NAMES.true
          (c.put_at.ensures ∙ ap (λ (x : Vec ℕ Global). insert x.items c.args.place c.args.name) (c.index_mut.ensures.value ∙ ap (λ k. get_or s.long.items k r) same));
      others = λ v apart some. subst (λ p. 0 < get_or (rooms_of s.heads.items (set s.long.items p c.put_at.new.row)) v 0) (sym c.place-then-head-gt-MOST_NAMES.ensures.same)
          (long_rooms_elsewhere s.heads.items s.pool.items s.long.items c.args.node c.put_at.new.row c.self.invariant v apart (subst (λ l. 0 < get_or l v 0) (sym (ap (λ (r : RowLists). r.room) c.self.view_is)) some));
    }

pub put_name-requires : goal.put_name-requires
put_name-requires c =
    let s = c.self.inside in
    let seen = ap (λ (r : RowLists). r.lists) c.self.view_is in
    let head = head_read s.heads.items s.pool.items s.long.items c.args.self.now.lists c.index-head.result.now c.place.result c.args.node seen c.requires.known c.place.ensures.same c.index-head.ensures in
    let len = short_len s.heads.items s.pool.items s.long.items c.args.self.now.lists c.args.node c.index-head.result.now c.self.invariant seen head c.if-head-gt-MOST_NAMES.false in
    let inside = c.requires.inside in
    let room = has_room s.heads.items s.pool.items s.long.items c.args.self.now.room c.args.node c.index-head.result.now c.self.invariant (ap (λ (r : RowLists). r.room) c.self.view_is) head c.if-head-gt-MOST_NAMES.false c.requires.room in
    let block = block_inside s.heads.items s.pool.items s.long.items c.args.node c.index-head.result.now c.self.invariant head in
    record {
      inside = omega (arith, len, inside, c.from.ensures);
      room = omega (arith, room.1, block, c.from.ensures, ap length c.deref_mut.ensures.value);
    }

-- the pool has the names that were written
now_is : (c : goal.After-self-3-1) → (with_items c.self.inside.pool c.put_name.new.pool).items ≡ c.put_name.new.pool
now_is c = with_items_is c.self.inside.pool c.put_name.new.pool (omega (arith, c.put_name.auto.pool, c.deref_mut.ensures.len))

pub invariant_of-self-2 : goal.invariant_of-self-2
invariant_of-self-2 c =
    let s = c.self.inside in
    let seen = ap (λ (r : RowLists). r.lists) c.self.view_is in
    let head = head_read s.heads.items s.pool.items s.long.items c.args.self.now.lists c.index-head.result.now c.place.result c.args.node seen c.requires.known c.place.ensures.same c.index-head.ensures in
    let same : length (with_items s.pool c.put_name.new.pool).items ≡ length s.pool.items = omega (arith, ap length (now_is c), c.put_name.auto.pool, ap length c.deref_mut.ensures.value) in
    let room = has_room s.heads.items s.pool.items s.long.items c.args.self.now.room c.args.node c.index-head.result.now c.self.invariant (ap (λ (r : RowLists). r.room) c.self.view_is) head c.if-head-gt-MOST_NAMES.false c.requires.room in
    subst (λ p. IsPool (set s.heads.items p (record { start = c.index-head.result.now.start; len = c.index-head.result.now.len + 1; units = c.index-head.result.now.units })) (with_items s.pool c.put_name.new.pool).items s.long.items) (sym c.place-2.ensures.same)
    (block_kept s.heads.items s.pool.items (with_items s.pool c.put_name.new.pool).items s.long.items c.args.node c.index-head.result.now (c.index-head.result.now.len + 1) c.self.invariant head same room.0 room.1)

pub returns : goal.returns
returns c =
    let s = c.self.inside in
    let seen = ap (λ (r : RowLists). r.lists) c.self.view_is in
    let head = head_read s.heads.items s.pool.items s.long.items c.args.self.now.lists c.index-head.result.now c.place.result c.args.node seen c.requires.known c.place.ensures.same c.index-head.ensures in
    let room = has_room s.heads.items s.pool.items s.long.items c.args.self.now.room c.args.node c.index-head.result.now c.self.invariant (ap (λ (r : RowLists). r.room) c.self.view_is) head c.if-head-gt-MOST_NAMES.false c.requires.room in
    let start = c.index-head.result.now.start in
    let new = (with_items s.pool c.put_name.new.pool).items in
    record {
      lists = ap (λ p. lists_of (set s.heads.items p (record { start = c.index-head.result.now.start; len = c.index-head.result.now.len + 1; units = c.index-head.result.now.units })) new s.long.items) c.place-2.ensures.same
          ∙ block_changed s.heads.items s.pool.items new s.long.items c.args.self.now.lists c.args.node c.index-head.result.now (c.index-head.result.now.len + 1) (c.index-head.result.now.len + 1) (insert (row_at c.args.self.now.lists c.args.node) c.args.place c.args.name) c.self.invariant seen head room.0 room.1
          ((λ i. names_at (now_is c i) start (sym c.from.ensures i + 1))
          ∙ c.put_name.ensures.row
          ∙ (λ i. insert (names_at (c.deref_mut.ensures.value i) start (c.from.ensures i)) c.args.place c.args.name)
          ∙ ap (λ l. insert l c.args.place c.args.name) (names_seen s.heads.items s.pool.items s.long.items c.args.self.now.lists c.args.node c.index-head.result.now seen head c.if-head-gt-MOST_NAMES.false))
          (λ from n apart.
          ap (λ l. names_at l from n) (now_is c)
          ∙ c.put_name.ensures.others from n (subst (λ k. AreDisjointParts from n start (k + 1)) (sym c.from.ensures) apart)
          ∙ ap (λ l. names_at l from n) c.deref_mut.ensures.value);
      others = λ v apart some. subst (λ p. 0 < get_or (rooms_of (set s.heads.items p (record { start = c.index-head.result.now.start; len = c.index-head.result.now.len + 1; units = c.index-head.result.now.units })) s.long.items) v 0) (sym c.place-2.ensures.same)
          (head_rooms_elsewhere s.heads.items s.long.items c.args.node (record { start = c.index-head.result.now.start; len = c.index-head.result.now.len + 1; units = c.index-head.result.now.units }) v apart (subst (λ l. 0 < get_or l v 0) (sym (ap (λ (r : RowLists). r.room) c.self.view_is)) some));
    }
