use Rattle.graph_store.proofs.Prelude.{◌≡◌, ◌<◌, None, OnOk, ap, sym, refl, subst, ◌∙◌, edge_count, present, without_edge, without_node, unlink_fault}
use Rattle.graph_store.proofs.LeavingNodes.{without_edge_at, edge_falls, may_unlink, may_leave}
use Rattle.graph_store.proofs.edge_store.EdgeStore.leave.Goals as goal

pub loop-w-init : goal.loop-w-init
loop-w-init c = (sym c.has.ensures ∙ c.if-not-has.false, refl)

pub last_neighbour-requires : goal.last_neighbour-requires
last_neighbour-requires c = c.loop-w.invariant.0

-- the edge to the last neighbour is taken out
unlinked : (c : goal.After-unwrap) → (unlink_fault c.loop-w.self.network c.args.v c.in-Some.w ≡ None) × (c.unlink.new.self.network ≡ without_edge c.loop-w.self.network c.args.v c.in-Some.w)
unlinked c =
    subst (λ r. OnOk r ((unlink_fault c.loop-w.self.network c.args.v c.in-Some.w ≡ None) × (c.unlink.new.self.network ≡ without_edge c.loop-w.self.network c.args.v c.in-Some.w))) c.unwrap.ensures c.unlink.ensures.ok

pub loop-w-smaller : goal.loop-w-smaller
loop-w-smaller c =
    let done = unlinked c in
    subst (λ net. edge_count net < edge_count c.loop-w.self.network) (sym done.1)
    (edge_falls c.loop-w.self.network c.args.v c.in-Some.w (may_unlink c.loop-w.self.network c.args.v c.in-Some.w done.0))

pub loop-w-preserved : goal.loop-w-preserved
loop-w-preserved c =
    let done = unlinked c in (
      ap (λ net. present net c.args.v) done.1 ∙ c.loop-w.invariant.0,
      ap (λ net. without_node net c.args.v) done.1 ∙ without_edge_at c.loop-w.self.network c.args.v c.in-Some.w ∙ c.loop-w.invariant.1,
    )

pub part-requires-clause-present : goal.part-requires-clause-present
part-requires-clause-present c = c.loop-w.invariant.0

pub returns-clause-ok : goal.returns-clause-ok
returns-clause-ok c =
    (may_leave c.args.self.now.network c.args.v (sym c.has.ensures ∙ c.if-not-has.false), c.part.ensures.node ∙ c.loop-w.invariant.1)
