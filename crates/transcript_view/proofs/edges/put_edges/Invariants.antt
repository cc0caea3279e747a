use Rattle.transcript_view.proofs.Prelude.{◌≡◌, ◌++◌, ◌-◌, filter, range_with_len, flat_map, present, edge_lines_at}
use Rattle.transcript_view.proofs.edges.put_edges.Given as goal

abbrev pub invariant-loop-name : goal.invariant-loop-name
invariant-loop-name l = l.out.items ≡ l.fn.out.items ++ flat_map (edge_lines_at l.net.state) (filter (present l.net.state.network) (range_with_len 1 (l.name - 1)))
