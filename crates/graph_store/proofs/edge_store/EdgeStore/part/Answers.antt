use Rattle.graph_store.proofs.Prelude.{◌≡◌, [], ap, sym, subst, ◌∙◌, without_node, Graph, row_at, network_of, IsStore, present_range}
use Rattle.graph_store.proofs.Store.{neighbours_by}
use Rattle.graph_store.proofs.LeavingNodes.{parted_store, parted_network}
use Rattle.graph_store.proofs.edge_store.EdgeStore.part.Goals as goal

pub invariant_of-self : goal.invariant_of-self
invariant_of-self c =
    let seen = ap (λ (g : Graph). g.network) c.self.view_is in
    let alone : row_at c.self.inside.rows.lists c.args.v ≡ [] = neighbours_by c.self.inside.nodes c.self.inside.here c.self.inside.rows.lists c.args.self.now.network c.args.v seen c.self.invariant.is_rows ∙ c.requires.alone in
    let parted = parted_store c.self.inside.nodes c.self.inside.here c.self.inside.edges c.self.inside.rows.lists c.args.v c.self.invariant (present_range c.args.self.now.network c.args.v c.requires.present).0 alone in
    subst (λ roll. IsStore c.self.inside.nodes roll c.self.inside.edges c.self.inside.rows.lists) (sym c.remove.ensures) parted

pub returns-clause-node : goal.returns-clause-node
returns-clause-node c =
    let seen = ap (λ (g : Graph). g.network) c.self.view_is in
    let alone : row_at c.self.inside.rows.lists c.args.v ≡ [] = neighbours_by c.self.inside.nodes c.self.inside.here c.self.inside.rows.lists c.args.self.now.network c.args.v seen c.self.invariant.is_rows ∙ c.requires.alone in
    ap (λ roll. network_of c.self.inside.nodes roll c.self.inside.rows.lists) c.remove.ensures
    ∙ parted_network c.self.inside.nodes c.self.inside.here c.self.inside.rows.lists c.args.v c.self.invariant.is_rows alone
    ∙ ap (λ net. without_node net c.args.v) seen
