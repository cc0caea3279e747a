use Rattle.transcript_view.proofs.Prelude.{◌≡◌, ◌++◌, ◌-◌, filter, range_with_len, flat_map, table_of, present, node_line}
use Rattle.transcript_view.proofs.nodes.put_nodes.Given as goal

abbrev pub invariant-loop-name : goal.invariant-loop-name
invariant-loop-name l = l.out.items ≡ l.fn.out.items ++ flat_map (node_line (table_of l.rules) l.net.state) (filter (present l.net.state.network) (range_with_len 1 (l.name - 1)))
