use Rattle.graph_store.proofs.Prelude.{ap, sym, subst, ◌∙◌, All, IsTrue, IsStrictlyIncreasing, neighbours, linked, present, Graph, has, row_at}
use Rattle.graph_store.proofs.Faults.{has_row}
use Rattle.graph_store.proofs.Store.{linked_by, neighbours_row, all_linked, all_present}
use Rattle.graph_store.proofs.edge_store.EdgeStore.neighbours.Goals as goal

pub row-requires : goal.row-requires
row-requires c = has_row c.self.inside.nodes c.self.inside.here c.self.inside.rows.lists c.args.self.now.network c.args.node (ap (λ (g : Graph). g.network) c.self.view_is) c.self.invariant.is_rows c.requires

pub returns : goal.returns
returns c =
    record {
      all = c.row.ensures ∙ sym (neighbours_row c.self.inside.nodes c.self.inside.here c.self.inside.rows.lists c.args.node c.self.invariant.is_rows) ∙ ap (λ net. neighbours net c.args.node) (ap (λ (g : Graph). g.network) c.self.view_is);
      present = subst (λ l. All (λ w. IsTrue (present c.args.self.now.network w)) l) (sym c.row.ensures)
          (subst (λ net. All (λ w. IsTrue (present net w)) (row_at c.self.inside.rows.lists c.args.node)) (ap (λ (g : Graph). g.network) c.self.view_is) (all_present c.self.inside.nodes c.self.inside.here c.self.inside.rows.lists c.args.node c.self.invariant.is_rows));
      linked = subst (λ l. All (λ w. IsTrue (linked c.args.self.now.network c.args.node w)) l) (sym c.row.ensures)
          (subst (λ net. All (λ w. IsTrue (linked net c.args.node w)) (row_at c.self.inside.rows.lists c.args.node)) (ap (λ (g : Graph). g.network) c.self.view_is) (all_linked c.self.inside.nodes c.self.inside.here c.self.inside.rows.lists c.args.node c.self.invariant.is_rows));
      rising = subst IsStrictlyIncreasing (sym c.row.ensures) (c.self.invariant.is_rows.rising c.args.node);
      found = λ w. ap (λ l. has l w) c.row.ensures ∙ linked_by c.self.inside.nodes c.self.inside.here c.self.inside.rows.lists c.args.self.now.network c.args.node w (ap (λ (g : Graph). g.network) c.self.view_is) c.self.invariant.is_rows;
    }
