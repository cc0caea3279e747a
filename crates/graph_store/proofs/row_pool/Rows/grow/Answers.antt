use Rattle.graph_store.proofs.Prelude.{◌≡◌, ℕ, ◌+◌, ◌*◌, ◌<◌, ◌≤◌, length, get_or, set, arith, ap, sym, subst, refl, ◌∙◌, Vec, Global, vec_len, vec_capacity, RowLists, IsPool, contents, row_at, names_at, spare_at}
use Rattle.graph_store.specs.RowPools.{lists_of, rooms_of}
use Rattle.graph_store.proofs.Contents.{contents_kept}
use Rattle.graph_store.proofs.Results.{on_ok_weaker}
use Rattle.graph_store.proofs.PooledRows.{head_read, head_owned, head_inside}
use Rattle.graph_store.proofs.PoolChanges.{long_same, long_room_made, long_room_kept, head_fits, longer_same, moved_kept, moved_same, moved_room, rooms_with, out_same, out_room, others_same, others_room}
use Rattle.graph_store.proofs.row_pool.Rows.grow.Goals as goal

pub index_mut-requires : goal.index_mut-requires
index_mut-requires c =
    let s = c.self.inside in
    let seen = ap (λ (r : RowLists). r.lists) c.self.view_is in
    let head = head_read s.heads.items s.pool.items s.long.items c.args.self.now.lists c.index-head.result.now c.place-place.result c.args.node seen c.requires c.place-place.ensures.same c.index-head.ensures in
    let owned = head_owned s.heads.items s.pool.items s.long.items c.args.node c.index-head.result.now c.self.invariant head c.if-head-gt-MOST_NAMES.true in
    omega (arith, owned, c.place-place.ensures.same)

pub returns-then-head-gt-MOST_NAMES : goal.returns-then-head-gt-MOST_NAMES
returns-then-head-gt-MOST_NAMES c =
    let s = c.self.inside in
    let seen = ap (λ (r : RowLists). r.lists) c.self.view_is in
    let head = head_read s.heads.items s.pool.items s.long.items c.args.self.now.lists c.index-head.result.now c.place-place.result c.args.node seen c.requires c.place-place.ensures.same c.index-head.ensures in
    let owned = head_owned s.heads.items s.pool.items s.long.items c.args.node c.index-head.result.now c.self.invariant head c.if-head-gt-MOST_NAMES.true in
    let read : c.index_mut.result.now ≡ get_or s.long.items c.args.node c.index_mut.result.now = c.index_mut.ensures.value ∙ ap (λ k. get_or s.long.items k c.index_mut.result.now) c.place-place.ensures.same in
    record {
      lists = long_same s.heads.items s.pool.items s.long.items (set s.long.items c.place-place.result c.add_room.new.names)
          (contents_kept s.long.items c.place-place.result c.index_mut.result.now c.add_room.new.names (c.add_room.ensures.items ∙ ap (λ (x : Vec ℕ Global). x.items) c.index_mut.ensures.value))
          ∙ seen;
      room = on_ok_weaker _ (0 < get_or (rooms_of s.heads.items (set s.long.items c.place-place.result c.add_room.new.names)) c.args.node 0) c.add_room.result
          (λ (room : vec_len c.add_room.new.names + 1 ≤ vec_capacity c.add_room.new.names).
          subst (λ p. 0 < get_or (rooms_of s.heads.items (set s.long.items p c.add_room.new.names)) c.args.node 0) (sym c.place-place.ensures.same)
          (long_room_made s.heads.items s.long.items c.args.node c.index-head.result.now c.add_room.new.names head c.if-head-gt-MOST_NAMES.true owned room))
          c.add_room.ensures.ok;
      others = λ v some. subst (λ p. 0 < get_or (rooms_of s.heads.items (set s.long.items p c.add_room.new.names)) v 0) (sym c.place-place.ensures.same)
          (long_room_kept s.heads.items s.pool.items s.long.items c.args.node c.index_mut.result.now c.add_room.new.names c.self.invariant owned (c.add_room.ensures.len ∙ ap (λ (x : Vec ℕ Global). vec_len x) read) (subst (λ (x : Vec ℕ Global). vec_capacity x ≤ vec_capacity c.add_room.new.names) read c.add_room.ensures.capacity) v (subst (λ l. 0 < get_or l v 0) (sym (ap (λ (r : RowLists). r.room) c.self.view_is)) some));
    }

pub add_block-requires-clause-inside : goal.add_block-requires-clause-inside
add_block-requires-clause-inside c =
    let s = c.self.inside in
    let seen = ap (λ (r : RowLists). r.lists) c.self.view_is in
    let head = head_read s.heads.items s.pool.items s.long.items c.args.self.now.lists c.index-head.result.now c.place-place.result c.args.node seen c.requires c.place-place.ensures.same c.index-head.ensures in
    let lies = head_inside s.heads.items s.pool.items s.long.items c.args.node c.index-head.result.now c.self.invariant head c.if-head-gt-MOST_NAMES.false in
    omega (arith, lies, c.from-len.ensures)

pub add_block-requires-clause-fits : goal.add_block-requires-clause-fits
add_block-requires-clause-fits c =
    let s = c.self.inside in
    let seen = ap (λ (r : RowLists). r.lists) c.self.view_is in
    let head = head_read s.heads.items s.pool.items s.long.items c.args.self.now.lists c.index-head.result.now c.place-place.result c.args.node seen c.requires c.place-place.ensures.same c.index-head.ensures in
    let fits = head_fits s.heads.items s.pool.items s.long.items c.args.node c.index-head.result.now c.self.invariant head c.if-head-gt-MOST_NAMES.false in
    omega (arith, fits, c.from-len.ensures, c.from.ensures)

pub returns-in_err-add_block-clause-lists : goal.returns-in_err-add_block-clause-lists
returns-in_err-add_block-clause-lists c =
    let s = c.self.inside in
    longer_same s.heads.items s.pool.items c.add_block.new.pool.items s.long.items c.self.invariant c.add_block.ensures.kept ∙ ap (λ (r : RowLists). r.lists) c.self.view_is

pub invariant_of-self-then-end-le-LAST_START : goal.invariant_of-self-then-end-le-LAST_START
invariant_of-self-then-end-le-LAST_START c =
    let s = c.self.inside in
    let seen = ap (λ (r : RowLists). r.lists) c.self.view_is in
    let head = head_read s.heads.items s.pool.items s.long.items c.args.self.now.lists c.index-head.result.now c.place-place.result c.args.node seen c.requires c.place-place.ensures.same c.index-head.ensures in
    let end : c.len-end.result ≡ length s.pool.items = omega (arith, c.len-end.ensures) in
    let room : length s.pool.items + 16 * (c.index-head.result.now.units + 1) ≤ length c.add_block.new.pool.items = omega (arith, c.in_ok-add_block.ensures.size, c.from.ensures) in
    subst (λ p. IsPool (set s.heads.items p (record { start = c.len-end.result; len = c.index-head.result.now.len; units = c.index-head.result.now.units + 1 })) c.add_block.new.pool.items s.long.items) (sym c.place-place.ensures.same)
    (subst (λ e. IsPool (set s.heads.items c.args.node (record { start = e; len = c.index-head.result.now.len; units = c.index-head.result.now.units + 1 })) c.add_block.new.pool.items s.long.items) (sym end)
    (moved_kept s.heads.items s.pool.items c.add_block.new.pool.items s.long.items c.args.node c.index-head.result.now c.self.invariant head c.if-head-gt-MOST_NAMES.false c.if-head-lt-MOST_UNITS.true room))

pub returns-then-end-le-LAST_START : goal.returns-then-end-le-LAST_START
returns-then-end-le-LAST_START c =
    let s = c.self.inside in
    let seen = ap (λ (r : RowLists). r.lists) c.self.view_is in
    let head = head_read s.heads.items s.pool.items s.long.items c.args.self.now.lists c.index-head.result.now c.place-place.result c.args.node seen c.requires c.place-place.ensures.same c.index-head.ensures in
    let end : c.len-end.result ≡ length s.pool.items = omega (arith, c.len-end.ensures) in
    let fits = head_fits s.heads.items s.pool.items s.long.items c.args.node c.index-head.result.now c.self.invariant head c.if-head-gt-MOST_NAMES.false in
    let made = moved_room s.heads.items s.long.items c.args.node (record { start = c.len-end.result; len = c.index-head.result.now.len; units = c.index-head.result.now.units + 1 }) head.inside c.if-head-gt-MOST_NAMES.false (omega (arith, fits)) in
    record {
      lists = ap (λ p. lists_of (set s.heads.items p (record { start = c.len-end.result; len = c.index-head.result.now.len; units = c.index-head.result.now.units + 1 })) c.add_block.new.pool.items s.long.items) c.place-place.ensures.same
          ∙ moved_same s.heads.items s.pool.items c.add_block.new.pool.items s.long.items c.args.node c.index-head.result.now (record { start = c.len-end.result; len = c.index-head.result.now.len; units = c.index-head.result.now.units + 1 }) c.self.invariant head c.if-head-gt-MOST_NAMES.false refl
          ((λ i. names_at c.add_block.new.pool.items (end i) (sym c.from-len.ensures i)) ∙ c.in_ok-add_block.ensures.row ∙ ap (names_at s.pool.items c.index-head.result.now.start) c.from-len.ensures)
          c.add_block.ensures.kept
          ∙ seen;
      room = subst (λ p. 0 < get_or (rooms_of (set s.heads.items p (record { start = c.len-end.result; len = c.index-head.result.now.len; units = c.index-head.result.now.units + 1 })) s.long.items) c.args.node 0) (sym c.place-place.ensures.same) made;
      others = λ v some. subst (λ p. 0 < get_or (rooms_of (set s.heads.items p (record { start = c.len-end.result; len = c.index-head.result.now.len; units = c.index-head.result.now.units + 1 })) s.long.items) v 0) (sym c.place-place.ensures.same)
          (rooms_with s.heads.items s.long.items s.long.items c.args.node (record { start = c.len-end.result; len = c.index-head.result.now.len; units = c.index-head.result.now.units + 1 }) head.inside made (λ w apart many spare. spare) v (subst (λ l. 0 < get_or l v 0) (sym (ap (λ (r : RowLists). r.room) c.self.view_is)) some));
    }

pub names_in-requires : goal.names_in-requires
names_in-requires c =
    let s = c.self.inside in
    let seen = ap (λ (r : RowLists). r.lists) c.self.view_is in
    let head = head_read s.heads.items s.pool.items s.long.items c.args.self.now.lists c.index-head.result.now c.place-place.result c.args.node seen c.requires c.place-place.ensures.same c.index-head.ensures in
    let lies = head_inside s.heads.items s.pool.items s.long.items c.args.node c.index-head.result.now c.self.invariant head c.if-head-gt-MOST_NAMES.false in
    omega (arith, lies, c.from-len.ensures, ap length c.deref.ensures.value)

pub returns-in_err-add_long-clause-lists : goal.returns-in_err-add_long-clause-lists
returns-in_err-add_long-clause-lists c =
    let s = c.self.inside in
    let seen = ap (λ (r : RowLists). r.lists) c.self.view_is in
    let head = head_read s.heads.items s.pool.items s.long.items c.args.self.now.lists c.index-head.result.now c.place-place.result c.args.node seen c.requires c.place-place.ensures.same c.index-head.ensures in
    others_same s.heads.items s.pool.items s.long.items c.add_long.new.long.items c.args.node c.index-head.result.now c.self.invariant head c.if-head-gt-MOST_NAMES.false (λ w apart inside. (c.add_long.ensures.others w (λ e. apart (e ∙ c.place-place.ensures.same)) inside).0) ∙ seen

pub returns-in_err-add_long-clause-others : goal.returns-in_err-add_long-clause-others
returns-in_err-add_long-clause-others c v some =
    let s = c.self.inside in
    let seen = ap (λ (r : RowLists). r.lists) c.self.view_is in
    let head = head_read s.heads.items s.pool.items s.long.items c.args.self.now.lists c.index-head.result.now c.place-place.result c.args.node seen c.requires c.place-place.ensures.same c.index-head.ensures in
    others_room s.heads.items s.pool.items s.long.items c.add_long.new.long.items c.args.node c.index-head.result.now c.self.invariant head c.if-head-gt-MOST_NAMES.false (λ w apart inside. (c.add_long.ensures.others w (λ e. apart (e ∙ c.place-place.ensures.same)) inside).1) v (subst (λ l. 0 < get_or l v 0) (sym (ap (λ (r : RowLists). r.room) c.self.view_is)) some)

pub returns : goal.returns
returns c =
    let s = c.self.inside in
    let seen = ap (λ (r : RowLists). r.lists) c.self.view_is in
    let head = head_read s.heads.items s.pool.items s.long.items c.args.self.now.lists c.index-head.result.now c.place-place.result c.args.node seen c.requires c.place-place.ensures.same c.index-head.ensures in
    let made = out_room s.heads.items c.add_long.new.long.items c.args.node (record { start = 0; len = 65535; units = 0 }) head.inside (omega arith) (subst (λ p. 0 < spare_at c.add_long.new.long.items p) c.place-place.ensures.same c.in_ok-add_long.ensures.room) in
    record {
      lists = ap (λ p. lists_of (set s.heads.items p (record { start = 0; len = 65535; units = 0 })) s.pool.items c.add_long.new.long.items) c.place-place.ensures.same
          ∙ out_same s.heads.items s.pool.items s.long.items c.add_long.new.long.items c.args.node c.index-head.result.now (record { start = 0; len = 65535; units = 0 }) c.self.invariant head c.if-head-gt-MOST_NAMES.false (omega arith)
          (ap (row_at (contents c.add_long.new.long.items)) (sym c.place-place.ensures.same) ∙ c.in_ok-add_long.ensures.row.1 ∙ c.names_in.ensures ∙ (λ i. names_at (c.deref.ensures.value i) c.index-head.result.now.start (c.from-len.ensures i)))
          (λ w apart inside. (c.add_long.ensures.others w (λ e. apart (e ∙ c.place-place.ensures.same)) inside).0)
          ∙ seen;
      room = subst (λ p. 0 < get_or (rooms_of (set s.heads.items p (record { start = 0; len = 65535; units = 0 })) c.add_long.new.long.items) c.args.node 0) (sym c.place-place.ensures.same) made;
      others = λ v some. subst (λ p. 0 < get_or (rooms_of (set s.heads.items p (record { start = 0; len = 65535; units = 0 })) c.add_long.new.long.items) v 0) (sym c.place-place.ensures.same)
          (rooms_with s.heads.items s.long.items c.add_long.new.long.items c.args.node (record { start = 0; len = 65535; units = 0 }) head.inside made (λ w apart many spare. let same = (c.add_long.ensures.others w (λ e. apart (e ∙ c.place-place.ensures.same)) (c.self.invariant.owned w many)).1 in omega (arith, same, spare)) v (subst (λ l. 0 < get_or l v 0) (sym (ap (λ (r : RowLists). r.room) c.self.view_is)) some));
    }
