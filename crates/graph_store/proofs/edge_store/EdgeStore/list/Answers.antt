use Rattle.graph_store.proofs.Prelude.{◌≡◌, length, ap, sym, ◌∙◌, arith, length-map, len-entries, IfOk-weaker, edge_list, Graph, network_of}
use Rattle.graph_store.proofs.PairLists.{edges_listed, nobody_row}
use Rattle.graph_store.proofs.edge_store.EdgeStore.list.Goals as goal

pub list_pairs-requires-clause-nobody : goal.list_pairs-requires-clause-nobody
list_pairs-requires-clause-nobody c =
    let inside = c.self.inside in
    nobody_row inside.nodes inside.here inside.rows.lists c.self.invariant.is_rows

pub returns : goal.returns
returns c =
    let inside = c.self.inside in
    let rows = inside.rows.lists in
    let listed = edges_listed rows c.self.invariant.is_rows.rising in
    let counted : length (edge_list (network_of inside.nodes inside.here rows)) ≡ inside.edges = length-map _ _ ∙ sym (len-entries (network_of inside.nodes inside.here rows).edges) ∙ c.self.invariant.counted in
    record {
      list = IfOk-weaker c.list_pairs.result _ _ (λ edges is. is ∙ sym listed ∙ ap edge_list (ap (λ (g : Graph). g.network) c.self.view_is)) c.list_pairs.ensures;
      few = IfOk-weaker c.list_pairs.result _ _ (λ edges is.
          omega (arith, ap length (is ∙ sym listed), counted, c.self.invariant.few_edges)) c.list_pairs.ensures;
    }
