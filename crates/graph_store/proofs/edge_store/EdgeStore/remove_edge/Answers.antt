use Rattle.graph_store.proofs.Prelude.{◌≡◌, ◌-◌, ◌<◌, length, arith, ap, sym, subst, ◌∙◌, without_edge, edge_count, Graph, network_of, IsStore, IsPlaceOf}
use Rattle.graph_store.proofs.Faults.{are_joined, has_row, known, some_edge}
use Rattle.graph_store.proofs.Store.{neighbours_by}
use Rattle.graph_store.proofs.Switch.{unlink_rows}
use Rattle.graph_store.proofs.edge_store.EdgeStore.remove_edge.Goals as goal

pub find_index-place_in_a-requires : goal.find_index-place_in_a-requires
find_index-place_in_a-requires c = (are_joined c.self.inside.nodes c.self.inside.here c.self.inside.rows.lists c.args.self.now.network c.args.a c.args.b (ap (λ (g : Graph). g.network) c.self.view_is) c.self.invariant.is_rows c.requires).here

pub find_index-place_in_b-requires : goal.find_index-place_in_b-requires
find_index-place_in_b-requires c = (are_joined c.self.inside.nodes c.self.inside.here c.self.inside.rows.lists c.args.self.now.network c.args.a c.args.b (ap (λ (g : Graph). g.network) c.self.view_is) c.self.invariant.is_rows c.requires).there

pub take_both-requires : goal.take_both-requires
take_both-requires c =
    let row = neighbours_by c.self.inside.nodes c.self.inside.here c.self.inside.rows.lists c.args.self.now.network c.args.a (ap (λ (g : Graph). g.network) c.self.view_is) c.self.invariant.is_rows in
    record {
      apart = (are_joined c.self.inside.nodes c.self.inside.here c.self.inside.rows.lists c.args.self.now.network c.args.a c.args.b (ap (λ (g : Graph). g.network) c.self.view_is) c.self.invariant.is_rows c.requires).apart;
      a_known = has_row c.self.inside.nodes c.self.inside.here c.self.inside.rows.lists c.args.self.now.network c.args.a (ap (λ (g : Graph). g.network) c.self.view_is) c.self.invariant.is_rows (are_joined c.self.inside.nodes c.self.inside.here c.self.inside.rows.lists c.args.self.now.network c.args.a c.args.b (ap (λ (g : Graph). g.network) c.self.view_is) c.self.invariant.is_rows c.requires).here;
      b_known = has_row c.self.inside.nodes c.self.inside.here c.self.inside.rows.lists c.args.self.now.network c.args.b (ap (λ (g : Graph). g.network) c.self.view_is) c.self.invariant.is_rows (are_joined c.self.inside.nodes c.self.inside.here c.self.inside.rows.lists c.args.self.now.network c.args.a c.args.b (ap (λ (g : Graph). g.network) c.self.view_is) c.self.invariant.is_rows c.requires).there;
      inside_a = subst (λ l. c.find_index-place_in_a.result < length l) (sym row) (c.find_index-place_in_a.ensures.place c.requires).0;
      inside_b = let row = neighbours_by c.self.inside.nodes c.self.inside.here c.self.inside.rows.lists c.args.self.now.network c.args.b (ap (λ (g : Graph). g.network) c.self.view_is) c.self.invariant.is_rows in
          subst (λ l. c.find_index-place_in_b.result < length l) (sym row) (c.find_index-place_in_b.ensures.place (are_joined c.self.inside.nodes c.self.inside.here c.self.inside.rows.lists c.args.self.now.network c.args.a c.args.b (ap (λ (g : Graph). g.network) c.self.view_is) c.self.invariant.is_rows c.requires).back).0;
    }

pub overflow_sub-self : goal.overflow_sub-self
overflow_sub-self c =
    let count : edge_count c.args.self.now.network ≡ c.self.inside.edges = ap (λ (g : Graph). edge_count g.network) (sym c.self.view_is) ∙ c.self.invariant.counted in
    omega (arith, count, some_edge c.args.self.now.network c.args.a c.args.b c.requires)

-- the new rows are a store, of the network without the edge
unlinked_now : (c : goal.After-self-1) → IsStore c.self.inside.nodes c.self.inside.here (c.self.inside.edges - 1) c.take_both.new.self.lists × (network_of c.self.inside.nodes c.self.inside.here c.take_both.new.self.lists ≡ without_edge c.args.self.now.network c.args.a c.args.b)
unlinked_now c =
    let seen = ap (λ (g : Graph). g.network) c.self.view_is in
    let both = are_joined c.self.inside.nodes c.self.inside.here c.self.inside.rows.lists c.args.self.now.network c.args.a c.args.b (ap (λ (g : Graph). g.network) c.self.view_is) c.self.invariant.is_rows c.requires in
    let rows = c.self.inside.rows.lists in
    let row_a = neighbours_by c.self.inside.nodes c.self.inside.here rows c.args.self.now.network c.args.a seen c.self.invariant.is_rows in
    let row_b = neighbours_by c.self.inside.nodes c.self.inside.here rows c.args.self.now.network c.args.b seen c.self.invariant.is_rows in
    let is = c.take_both.ensures in
    let new = unlink_rows c.self.inside.nodes c.self.inside.here c.self.inside.edges c.args.a c.args.b c.find_index-place_in_a.result c.find_index-place_in_b.result rows _ c.self.invariant both.apart (known c.self.inside.nodes c.self.inside.here rows c.args.self.now.network c.args.a seen both.here) (known c.self.inside.nodes c.self.inside.here rows c.args.self.now.network c.args.b seen both.there) (subst (λ l. IsPlaceOf l c.args.b c.find_index-place_in_a.result) (sym row_a) (c.find_index-place_in_a.ensures.place c.requires)) (subst (λ l. IsPlaceOf l c.args.a c.find_index-place_in_b.result) (sym row_b) (c.find_index-place_in_b.ensures.place both.back)) is in
    (new.0, new.1 ∙ ap (λ net. without_edge net c.args.a c.args.b) seen)

pub invariant_of-self : goal.invariant_of-self
invariant_of-self c = (unlinked_now c).0

pub returns : goal.returns
returns c = record { network = (unlinked_now c).1 }
