use Rattle.graph_store.proofs.Prelude.{◌≡◌, take, pairs_from}
use Rattle.graph_store.proofs.row_pool.Rows.list_pairs.Given as goal

abbrev pub invariant-loop-place : goal.invariant-loop-place
invariant-loop-place l = l.pairs.items ≡ pairs_from 0 (take l.place l.self.lists)
