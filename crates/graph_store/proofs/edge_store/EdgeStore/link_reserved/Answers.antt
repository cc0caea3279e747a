use Rattle.graph_store.proofs.Prelude.{◌≡◌, ◌+◌, ◌≤◌, length, arith, ap, sym, subst, ◌∙◌, eqb-false, with_edge, edge_count, Graph, network_of, IsStore, IsGapFor, linked_back}
use Rattle.graph_store.proofs.Faults.{may_link, known}
use Rattle.graph_store.proofs.Store.{neighbours_by}
use Rattle.graph_store.proofs.Switch.{link_rows}
use Rattle.graph_store.proofs.edge_store.EdgeStore.link_reserved.Goals as goal

pub guess_gap-place_in_a-requires-clause-apart : goal.guess_gap-place_in_a-requires-clause-apart
guess_gap-place_in_a-requires-clause-apart c = c.neighbours.ensures.found c.args.b ∙ (may_link c.args.self.now.network c.args.a c.args.b c.requires.free).fresh

pub put_both-requires-clause-inside_a : goal.put_both-requires-clause-inside_a
put_both-requires-clause-inside_a c =
    let row = neighbours_by c.self.inside.nodes c.self.inside.here c.self.inside.rows.lists c.args.self.now.network c.args.a (ap (λ (g : Graph). g.network) c.self.view_is) c.self.invariant.is_rows in
    subst (λ l. c.guess_gap-place_in_a.result ≤ length l) (sym row) (subst (λ l. IsGapFor l c.args.b c.guess_gap-place_in_a.result) c.neighbours.ensures.all c.guess_gap-place_in_a.ensures).inside

pub put_both-requires-clause-inside_b : goal.put_both-requires-clause-inside_b
put_both-requires-clause-inside_b c =
    let row = neighbours_by c.self.inside.nodes c.self.inside.here c.self.inside.rows.lists c.args.self.now.network c.args.b (ap (λ (g : Graph). g.network) c.self.view_is) c.self.invariant.is_rows in
    subst (λ l. c.find_index-place_in_b.result ≤ length l) (sym row) (c.find_index-place_in_b.ensures.gap (linked_back c.args.self.now.network c.args.b c.args.a ∙ (may_link c.args.self.now.network c.args.a c.args.b c.requires.free).fresh)).inside

-- the new rows are a store, of the network with the edge
linked_now : (c : goal.After-self-1) → IsStore c.self.inside.nodes c.self.inside.here (c.self.inside.edges + 1) c.put_both.new.self.lists × (network_of c.self.inside.nodes c.self.inside.here c.put_both.new.self.lists ≡ with_edge c.args.self.now.network c.args.a c.args.b)
linked_now c =
    let seen = ap (λ (g : Graph). g.network) c.self.view_is in
    let ends = may_link c.args.self.now.network c.args.a c.args.b c.requires.free in
    let row_a = neighbours_by c.self.inside.nodes c.self.inside.here c.self.inside.rows.lists c.args.self.now.network c.args.a seen c.self.invariant.is_rows in
    let row_b = neighbours_by c.self.inside.nodes c.self.inside.here c.self.inside.rows.lists c.args.self.now.network c.args.b seen c.self.invariant.is_rows in
    let is = c.put_both.ensures in
    let count : edge_count c.args.self.now.network ≡ c.self.inside.edges = ap edge_count (sym seen) ∙ c.self.invariant.counted in
    let new = link_rows c.self.inside.nodes c.self.inside.here c.self.inside.edges c.args.a c.args.b c.guess_gap-place_in_a.result c.find_index-place_in_b.result c.self.inside.rows.lists _ c.self.invariant (eqb-false c.args.a c.args.b ends.apart) (known c.self.inside.nodes c.self.inside.here c.self.inside.rows.lists c.args.self.now.network c.args.a seen ends.here_a) (known c.self.inside.nodes c.self.inside.here c.self.inside.rows.lists c.args.self.now.network c.args.b seen ends.here_b) (subst (λ l. IsGapFor l c.args.b c.guess_gap-place_in_a.result) (sym row_a) (subst (λ l. IsGapFor l c.args.b c.guess_gap-place_in_a.result) c.neighbours.ensures.all c.guess_gap-place_in_a.ensures)) (subst (λ l. IsGapFor l c.args.a c.find_index-place_in_b.result) (sym row_b) (c.find_index-place_in_b.ensures.gap (linked_back c.args.self.now.network c.args.b c.args.a ∙ (may_link c.args.self.now.network c.args.a c.args.b c.requires.free).fresh))) (omega (arith, count, ends.few)) is in
    (new.0, new.1 ∙ ap (λ net. with_edge net c.args.a c.args.b) seen)

pub invariant_of-self : goal.invariant_of-self
invariant_of-self c = (linked_now c).0

pub returns : goal.returns
returns c = record { network = (linked_now c).1 }
