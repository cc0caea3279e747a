use Rattle.graph_store.proofs.Prelude.{◌≡◌, ◌∙◌, replicate, no_head}
use Rattle.std.proofs.Common.{rules}
use Rattle.graph_store.specs.RowPools.{lists_of}
use Rattle.graph_store.proofs.PoolChanges.{no_lists}
use Rattle.graph_store.proofs.row_pool.Rows.new.Goals as goal

pub returns : goal.returns
returns c =
    let is : c.in_ok-heads.heads.items ≡ replicate c.args.count no_head = search rules in
    (λ i. lists_of (is i) (c.new.ensures.items i) (c.new-2.ensures.items i)) ∙ no_lists c.args.count
