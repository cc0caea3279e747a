use Rattle.graph_store.proofs.Prelude.{◌≤◌, get_or, arith, ap, RowLists}
use Rattle.graph_store.proofs.PooledRows.{head_read}
use Rattle.graph_store.proofs.PoolChanges.{room_short, head_units}
use Rattle.graph_store.proofs.row_pool.Rows.make_room.Goals as goal

pub overflow_mul-from : goal.overflow_mul-from
overflow_mul-from c =
    let s = c.self.inside in
    let seen = ap (λ (r : RowLists). r.lists) c.self.view_is in
    let head = head_read s.heads.items s.pool.items s.long.items c.args.self.now.lists c.index-head.result.now c.place.result c.args.node seen c.requires c.place.ensures.same c.index-head.ensures in
    let small = head_units s.heads.items s.pool.items s.long.items c.args.node c.index-head.result.now c.self.invariant head in
    omega (arith, small, c.from-2.ensures)

pub returns-then-from-clause-room : goal.returns-then-from-clause-room
returns-then-from-clause-room c =
    let s = c.self.inside in
    let seen = ap (λ (r : RowLists). r.lists) c.self.view_is in
    let head = head_read s.heads.items s.pool.items s.long.items c.args.self.now.lists c.index-head.result.now c.place.result c.args.node seen c.requires c.place.ensures.same c.index-head.ensures in
    let small = head_units s.heads.items s.pool.items s.long.items c.args.node c.index-head.result.now c.self.invariant head in
    let few : c.index-head.result.now.len ≤ 64 = omega (arith, small, c.from.ensures, c.from-2.ensures, c.if-from.true) in
    let is = room_short s.heads.items s.long.items c.args.node c.index-head.result.now head few in
    let same = ap (λ (r : RowLists). get_or r.room c.args.node 0) c.self.view_is in
    omega (arith, is, same, c.from.ensures, c.from-2.ensures, c.if-from.true)
