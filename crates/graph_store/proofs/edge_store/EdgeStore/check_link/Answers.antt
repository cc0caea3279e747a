use Rattle.graph_store.proofs.Prelude.{◌≡◌, arith, ap, sym, refl, subst, ◌∙◌, true, false, le-leb, lt-leb, edge_count, Graph, IsGapFor}
use Rattle.graph_store.proofs.Faults.{ends_known, link_fault_is}
use Rattle.graph_store.proofs.AscendingLists.{there_at_place, absent_at_gap}
use Rattle.graph_store.proofs.edge_store.EdgeStore.check_link.Goals as goal

pub neighbours-requires : goal.neighbours-requires
neighbours-requires c = (ends_known c.args.self.now.network c.args.a c.args.b c.in_ok-check_ends.ensures.ok).0

pub returns-in_default-clause-fault : goal.returns-in_default-clause-fault
returns-in_default-clause-fault c =
    let ends = ends_known c.args.self.now.network c.args.a c.args.b c.in_ok-check_ends.ensures.ok in
    let there = sym (c.neighbours.ensures.found c.args.b) ∙ there_at_place c.neighbours.result.now c.args.b c.in_default.field-0 c.in_default.ensures in
    link_fault_is c.args.self.now.network c.args.a c.args.b true _ ends.0 ends.1 ends.2 there refl

pub returns-then-self-ge-MAX_EDGES-clause-fault : goal.returns-then-self-ge-MAX_EDGES-clause-fault
returns-then-self-ge-MAX_EDGES-clause-fault c =
    let ends = ends_known c.args.self.now.network c.args.a c.args.b c.in_ok-check_ends.ensures.ok in
    let absent = sym (c.neighbours.ensures.found c.args.b) ∙ absent_at_gap c.neighbours.result.now c.args.b c.in-Err.place c.in-Err.ensures in
    let count : edge_count c.args.self.now.network ≡ c.self.inside.edges = ap (λ (g : Graph). edge_count g.network) (sym c.self.view_is) ∙ c.self.invariant.counted in
    link_fault_is c.args.self.now.network c.args.a c.args.b false true ends.0 ends.1 ends.2 absent (le-leb 1048576 (edge_count c.args.self.now.network) (omega (arith, count, c.if-self-ge-MAX_EDGES.true)))

pub returns : goal.returns
returns c =
    let ends = ends_known c.args.self.now.network c.args.a c.args.b c.in_ok-check_ends.ensures.ok in
    let absent = sym (c.neighbours.ensures.found c.args.b) ∙ absent_at_gap c.neighbours.result.now c.args.b c.in-Err.place c.in-Err.ensures in
    let count : edge_count c.args.self.now.network ≡ c.self.inside.edges = ap (λ (g : Graph). edge_count g.network) (sym c.self.view_is) ∙ c.self.invariant.counted in
    record {
      free = link_fault_is c.args.self.now.network c.args.a c.args.b false false ends.0 ends.1 ends.2 absent (lt-leb 1048576 (edge_count c.args.self.now.network) (omega (arith, count, c.if-self-ge-MAX_EDGES.false)));
      gap = subst (λ l. IsGapFor l c.args.b c.in-Err.place) c.neighbours.ensures.all c.in-Err.ensures;
      fault = tt;
    }
