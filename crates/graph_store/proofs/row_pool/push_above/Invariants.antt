use Rattle.std.proofs.Common.{◌≡◌, ◌++◌, take}
use Rattle.graph_store.proofs.PairLists.{pairs_of}
use Rattle.graph_store.proofs.row_pool.push_above.Given as goal

abbrev pub invariant-loop-w : goal.invariant-loop-w
invariant-loop-w l = l.pairs.items ≡ l.fn.pairs.items ++ pairs_of l.v (take l.w-index l.row)
