use Rattle.graph_store.proofs.Prelude.{ap, ◌∙◌, Graph}
use Rattle.graph_store.proofs.Faults.{has_row}
use Rattle.graph_store.proofs.LeavingNodes.{last_of}
use Rattle.graph_store.proofs.edge_store.EdgeStore.last_neighbour.Goals as goal

pub row-requires : goal.row-requires
row-requires c = has_row c.self.inside.nodes c.self.inside.here c.self.inside.rows.lists c.args.self.now.network c.args.v (ap (λ (g : Graph). g.network) c.self.view_is) c.self.invariant.is_rows c.requires

pub returns : goal.returns
returns c =
    let seen = ap (λ (g : Graph). g.network) c.self.view_is in
    last_of c.self.inside.nodes c.self.inside.here c.self.inside.rows.lists c.args.self.now.network c.args.v c.row.result.now c.copied.result seen c.self.invariant.is_rows c.requires c.row.ensures (c.copied.ensures ∙ c.last.ensures.value)
