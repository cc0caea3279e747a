use Rattle.std.proofs.Common.{◌≡◌, ◌++◌, take, drop}
use Rattle.rudekpi_c.proofs.node_view.put_names.Given as goal

abbrev pub invariant-loop-at : goal.invariant-loop-at
invariant-loop-at l = l.out ≡ take l.at l.nodes ++ drop l.at l.fn.out
