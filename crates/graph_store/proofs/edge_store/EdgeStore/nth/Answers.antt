use Rattle.graph_store.proofs.Prelude.{ap, ◌∙◌, slice_get, names, Graph, network_of}
use Rattle.graph_store.proofs.PresentRows.{members_names}
use Rattle.graph_store.proofs.edge_store.EdgeStore.nth.Goals as goal

pub returns : goal.returns
returns c =
    let net = network_of c.self.inside.nodes c.self.inside.here c.self.inside.rows.lists in
    let are = members_names net c.self.invariant.is_rows.roll_len c.self.invariant.is_rows.nobody in
    c.nth.ensures ∙ ap (λ l. slice_get l c.args.k) (are ∙ ap names (ap (λ (g : Graph). g.network) c.self.view_is))
