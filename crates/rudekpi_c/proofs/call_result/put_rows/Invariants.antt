use Rattle.std.proofs.Common.{◌≡◌, ◌++◌, map, take, drop}
use Rattle.rudekpi_c.proofs.call_result.put_rows.Given as goal

abbrev pub invariant-loop-at : goal.invariant-loop-at
invariant-loop-at g l = l.out ≡ map g.T.AsRow.shown (take l.at l.items) ++ drop l.at l.fn.out
