use Rattle.graph_store.proofs.Prelude.{◌≡◌, ℕ, ◌-◌, length, get_or, arith, ap, sym, subst, ◌∙◌, Vec, Global, with_items, with_items_is, RowLists, AreDisjointParts, IsPool, names_at, row_at, remove, set}
use Rattle.graph_store.specs.RowPools.{lists_of}
use Rattle.graph_store.proofs.PooledRows.{head_read, head_owned, head_inside}
use Rattle.graph_store.proofs.PoolChanges.{long_changed, long_read, block_changed, block_kept, short_len, names_seen, head_fits}
use Rattle.graph_store.proofs.row_pool.Rows.take_out.Goals as goal

pub index_mut-requires : goal.index_mut-requires
index_mut-requires c =
    let s = c.self.inside in
    let seen = ap (λ (r : RowLists). r.lists) c.self.view_is in
    let head = head_read s.heads.items s.pool.items s.long.items c.args.self.now.lists c.index-head.result.now c.place.result c.args.node seen c.requires.known c.place.ensures.same c.index-head.ensures in
    let owned = head_owned s.heads.items s.pool.items s.long.items c.args.node c.index-head.result.now c.self.invariant head c.if-head-gt-MOST_NAMES.true in
    omega (arith, owned, c.place-then-head-gt-MOST_NAMES.ensures.same)

pub take_at-requires : goal.take_at-requires
take_at-requires c =
    let s = c.self.inside in
    let seen = ap (λ (r : RowLists). r.lists) c.self.view_is in
    let head = head_read s.heads.items s.pool.items s.long.items c.args.self.now.lists c.index-head.result.now c.place.result c.args.node seen c.requires.known c.place.ensures.same c.index-head.ensures in
    let row = long_read s.heads.items s.pool.items s.long.items c.args.self.now.lists c.args.node c.place-then-head-gt-MOST_NAMES.result c.index-head.result.now c.index_mut.result.now c.self.invariant seen head c.if-head-gt-MOST_NAMES.true c.place-then-head-gt-MOST_NAMES.ensures.same c.index_mut.ensures.value in
    let inside = c.requires.inside in
    omega (arith, ap length row, inside)

pub returns-then-head-gt-MOST_NAMES : goal.returns-then-head-gt-MOST_NAMES
returns-then-head-gt-MOST_NAMES c =
    let s = c.self.inside in
    let seen = ap (λ (r : RowLists). r.lists) c.self.view_is in
    let head = head_read s.heads.items s.pool.items s.long.items c.args.self.now.lists c.index-head.result.now c.place.result c.args.node seen c.requires.known c.place.ensures.same c.index-head.ensures in
    let same = c.place-then-head-gt-MOST_NAMES.ensures.same in
    let r = c.index_mut.result.now in
    ap (λ p. lists_of s.heads.items s.pool.items (set s.long.items p c.take_at.new.row)) same
    ∙ long_changed s.heads.items s.pool.items s.long.items c.args.self.now.lists c.args.node c.index-head.result.now r c.take_at.new.row (λ l. remove l c.args.place) c.self.invariant seen head c.if-head-gt-MOST_NAMES.true
    (c.take_at.ensures ∙ ap (λ (x : Vec ℕ Global). remove x.items c.args.place) (c.index_mut.ensures.value ∙ ap (λ k. get_or s.long.items k r) same))

pub take_name-requires : goal.take_name-requires
take_name-requires c =
    let s = c.self.inside in
    let seen = ap (λ (r : RowLists). r.lists) c.self.view_is in
    let head = head_read s.heads.items s.pool.items s.long.items c.args.self.now.lists c.index-head.result.now c.place.result c.args.node seen c.requires.known c.place.ensures.same c.index-head.ensures in
    let len = short_len s.heads.items s.pool.items s.long.items c.args.self.now.lists c.args.node c.index-head.result.now c.self.invariant seen head c.if-head-gt-MOST_NAMES.false in
    let inside = c.requires.inside in
    let lies = head_inside s.heads.items s.pool.items s.long.items c.args.node c.index-head.result.now c.self.invariant head c.if-head-gt-MOST_NAMES.false in
    record {
      inside = omega (arith, len, inside, c.from.ensures);
      room = omega (arith, lies, c.from.ensures, ap length c.deref_mut.ensures.value);
    }

pub overflow_sub-head : goal.overflow_sub-head
overflow_sub-head c =
    let s = c.self.inside in
    let seen = ap (λ (r : RowLists). r.lists) c.self.view_is in
    let head = head_read s.heads.items s.pool.items s.long.items c.args.self.now.lists c.index-head.result.now c.place.result c.args.node seen c.requires.known c.place.ensures.same c.index-head.ensures in
    let len = short_len s.heads.items s.pool.items s.long.items c.args.self.now.lists c.args.node c.index-head.result.now c.self.invariant seen head c.if-head-gt-MOST_NAMES.false in
    let inside = c.requires.inside in
    omega (arith, len, inside)

-- the pool has the names that were written
now_is : (c : goal.After-self-3-1) → (with_items c.self.inside.pool c.take_name.new.pool).items ≡ c.take_name.new.pool
now_is c = with_items_is c.self.inside.pool c.take_name.new.pool (omega (arith, c.take_name.auto.pool, c.deref_mut.ensures.len))

pub invariant_of-self-2 : goal.invariant_of-self-2
invariant_of-self-2 c =
    let s = c.self.inside in
    let seen = ap (λ (r : RowLists). r.lists) c.self.view_is in
    let head = head_read s.heads.items s.pool.items s.long.items c.args.self.now.lists c.index-head.result.now c.place.result c.args.node seen c.requires.known c.place.ensures.same c.index-head.ensures in
    let same : length (with_items s.pool c.take_name.new.pool).items ≡ length s.pool.items = omega (arith, ap length (now_is c), c.take_name.auto.pool, ap length c.deref_mut.ensures.value) in
    let few = c.if-head-gt-MOST_NAMES.false in
    let fits = head_fits s.heads.items s.pool.items s.long.items c.args.node c.index-head.result.now c.self.invariant head few in
    subst (λ p. IsPool (set s.heads.items p (record { start = c.index-head.result.now.start; len = c.index-head.result.now.len - 1; units = c.index-head.result.now.units })) (with_items s.pool c.take_name.new.pool).items s.long.items) (sym c.place-2.ensures.same)
    (block_kept s.heads.items s.pool.items (with_items s.pool c.take_name.new.pool).items s.long.items c.args.node c.index-head.result.now (c.index-head.result.now.len - 1) c.self.invariant head same (omega (arith, few)) (omega (arith, fits)))

pub returns : goal.returns
returns c =
    let s = c.self.inside in
    let seen = ap (λ (r : RowLists). r.lists) c.self.view_is in
    let head = head_read s.heads.items s.pool.items s.long.items c.args.self.now.lists c.index-head.result.now c.place.result c.args.node seen c.requires.known c.place.ensures.same c.index-head.ensures in
    let fits = head_fits s.heads.items s.pool.items s.long.items c.args.node c.index-head.result.now c.self.invariant head c.if-head-gt-MOST_NAMES.false in
    let start = c.index-head.result.now.start in
    let new = (with_items s.pool c.take_name.new.pool).items in
    ap (λ p. lists_of (set s.heads.items p (record { start = c.index-head.result.now.start; len = c.index-head.result.now.len - 1; units = c.index-head.result.now.units })) new s.long.items) c.place-2.ensures.same
    ∙ block_changed s.heads.items s.pool.items new s.long.items c.args.self.now.lists c.args.node c.index-head.result.now (c.index-head.result.now.len - 1) (c.index-head.result.now.len) (remove (row_at c.args.self.now.lists c.args.node) c.args.place) c.self.invariant seen head (omega (arith, c.if-head-gt-MOST_NAMES.false)) fits
    ((λ i. names_at (now_is c i) start (sym c.from.ensures i - 1))
    ∙ c.take_name.ensures.row
    ∙ (λ i. remove (names_at (c.deref_mut.ensures.value i) start (c.from.ensures i)) c.args.place)
    ∙ ap (λ l. remove l c.args.place) (names_seen s.heads.items s.pool.items s.long.items c.args.self.now.lists c.args.node c.index-head.result.now seen head c.if-head-gt-MOST_NAMES.false))
    (λ from n apart.
    ap (λ l. names_at l from n) (now_is c)
    ∙ c.take_name.ensures.others from n (subst (λ k. AreDisjointParts from n start (k)) (sym c.from.ensures) apart)
    ∙ ap (λ l. names_at l from n) c.deref_mut.ensures.value)
