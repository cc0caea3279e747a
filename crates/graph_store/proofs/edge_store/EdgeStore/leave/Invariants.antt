use Rattle.graph_store.proofs.Prelude.{◌≡◌, IsTrue, edge_count, present, without_node}
use Rattle.graph_store.proofs.edge_store.EdgeStore.leave.Given as goal

abbrev pub invariant-loop-w : goal.invariant-loop-w
invariant-loop-w l =
    IsTrue (present l.self.network l.v) × (without_node l.self.network l.v ≡ without_node l.initial.self.network l.v)

abbrev pub decreases-loop-w : goal.decreases-loop-w
decreases-loop-w l = edge_count l.self.network
