use Rattle.transcript_view.proofs.Prelude.{◌≡◌, ◌++◌, take, filter, nat_lt, flat_map, edge_line}
use Rattle.transcript_view.proofs.edges.put_edges_to.Given as goal

abbrev pub invariant-loop-w : goal.invariant-loop-w
invariant-loop-w l = l.out.items ≡ l.fn.out.items ++ flat_map (edge_line l.net.state l.v) (filter (nat_lt l.v) (take l.w-index l.row))
