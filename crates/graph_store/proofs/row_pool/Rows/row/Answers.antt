use Rattle.graph_store.proofs.Prelude.{length, arith, ap, sym, refl, ◌∙◌, RowLists, names_at}
use Rattle.graph_store.proofs.Contents.{row_read}
use Rattle.graph_store.proofs.PooledRows.{short_is, long_is, head_read, head_owned, head_inside, row_seen}
use Rattle.graph_store.proofs.row_pool.Rows.row.Goals as goal

pub index-requires : goal.index-requires
index-requires c =
    let s = c.self.inside in
    let head = head_read s.heads.items s.pool.items s.long.items c.args.self.now.lists c.index-head.result.now c.place.result c.args.node (ap (λ (r : RowLists). r.lists) c.self.view_is) c.requires c.place.ensures.same c.index-head.ensures in
    let owned = head_owned s.heads.items s.pool.items s.long.items c.args.node c.index-head.result.now c.self.invariant head c.if-head-gt-MOST_NAMES.true in
    omega (arith, owned, c.place-then-head-gt-MOST_NAMES.ensures.same)

pub returns-then-head-gt-MOST_NAMES : goal.returns-then-head-gt-MOST_NAMES
returns-then-head-gt-MOST_NAMES c =
    let s = c.self.inside in
    let seen = ap (λ (r : RowLists). r.lists) c.self.view_is in
    let head = head_read s.heads.items s.pool.items s.long.items c.args.self.now.lists c.index-head.result.now c.place.result c.args.node seen c.requires c.place.ensures.same c.index-head.ensures in
    let owned = head_owned s.heads.items s.pool.items s.long.items c.args.node c.index-head.result.now c.self.invariant head c.if-head-gt-MOST_NAMES.true in
    c.deref.ensures.value
    ∙ row_read s.long.items s.long.items c.args.node c.place-then-head-gt-MOST_NAMES.result c.index.result.now refl c.place-then-head-gt-MOST_NAMES.ensures.same owned c.index.ensures
    ∙ sym (long_is s.pool.items s.long.items c.index-head.result.now c.args.node c.if-head-gt-MOST_NAMES.true)
    ∙ row_seen s.heads.items s.pool.items s.long.items c.args.self.now.lists c.args.node c.index-head.result.now head seen

pub names_in-requires : goal.names_in-requires
names_in-requires c =
    let s = c.self.inside in
    let head = head_read s.heads.items s.pool.items s.long.items c.args.self.now.lists c.index-head.result.now c.place.result c.args.node (ap (λ (r : RowLists). r.lists) c.self.view_is) c.requires c.place.ensures.same c.index-head.ensures in
    let lies = head_inside s.heads.items s.pool.items s.long.items c.args.node c.index-head.result.now c.self.invariant head c.if-head-gt-MOST_NAMES.false in
    omega (arith, lies, c.from.ensures, ap length c.deref-2.ensures.value)

pub returns : goal.returns
returns c =
    let s = c.self.inside in
    let seen = ap (λ (r : RowLists). r.lists) c.self.view_is in
    let head = head_read s.heads.items s.pool.items s.long.items c.args.self.now.lists c.index-head.result.now c.place.result c.args.node seen c.requires c.place.ensures.same c.index-head.ensures in
    c.names_in.ensures
    ∙ (λ i. names_at (c.deref-2.ensures.value i) c.index-head.result.now.start (c.from.ensures i))
    ∙ sym (short_is s.pool.items s.long.items c.index-head.result.now c.args.node c.if-head-gt-MOST_NAMES.false)
    ∙ row_seen s.heads.items s.pool.items s.long.items c.args.self.now.lists c.args.node c.index-head.result.now head seen
