use Rattle.graph_store.proofs.Prelude.{◌≡◌, ◌-◌, first_names}
use Rattle.graph_store.proofs.edge_store.first_names.Given as goal

abbrev pub invariant-loop-name : goal.invariant-loop-name
invariant-loop-name l = l.set ≡ first_names l.fn.size (l.name - 1)
