use Rattle.graph_store.proofs.Prelude.{ap, Graph}
use Rattle.graph_store.proofs.Faults.{has_row}
use Rattle.graph_store.proofs.Results.{on_ok_map_err}
use Rattle.graph_store.proofs.edge_store.EdgeStore.make_room.Goals as goal

pub reserve_both-requires : goal.reserve_both-requires
reserve_both-requires c =
    record {
      a_known = has_row c.self.inside.nodes c.self.inside.here c.self.inside.rows.lists c.args.self.now.network c.args.a (ap (λ (g : Graph). g.network) c.self.view_is) c.self.invariant.is_rows c.requires.present_a;
      b_known = has_row c.self.inside.nodes c.self.inside.here c.self.inside.rows.lists c.args.self.now.network c.args.b (ap (λ (g : Graph). g.network) c.self.view_is) c.self.invariant.is_rows c.requires.present_b;
    }

pub returns-clause-room : goal.returns-clause-room
returns-clause-room c = on_ok_map_err _ _ c.reserve_both.result c.map_err.result _ c.map_err.ensures.cases (λ room. room) c.reserve_both.ensures.room
