use Rattle.graph_store.proofs.Prelude.{length, arith, ap, ◌∙◌, length-filter, length-range_with_len, node_count, present, range_with_len, count_by-le-length, Graph, network_of}
use Rattle.graph_store.proofs.PresentRows.{members_names}
use Rattle.graph_store.proofs.edge_store.EdgeStore.nodes.Goals as goal

pub returns : goal.returns
returns c =
    let net = network_of c.self.inside.nodes c.self.inside.here c.self.inside.rows.lists in
    let is = c.count.ensures ∙ ap length (members_names net c.self.invariant.is_rows.roll_len c.self.invariant.is_rows.nobody) in
    let most = count_by-le-length (present net) (range_with_len 1 net.size) in
    let few = c.self.invariant.few_nodes in
    record {
      count = c.count.ensures
          ∙ ap length (members_names (network_of c.self.inside.nodes c.self.inside.here c.self.inside.rows.lists) c.self.invariant.is_rows.roll_len c.self.invariant.is_rows.nobody)
          ∙ ap node_count (ap (λ (g : Graph). g.network) c.self.view_is);
      few = omega (arith, is, length-filter (present net) (range_with_len 1 net.size), most, length-range_with_len 1 net.size, few);
    }
