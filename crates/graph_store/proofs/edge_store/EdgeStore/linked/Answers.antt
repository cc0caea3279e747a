use Rattle.graph_store.proofs.Prelude.{◌≡◌, ◌≤◌, length, arith, ap, sym, subst, ◌∙◌, [], true, IsStrictlyIncreasing, Graph, has, get_or_past}
use Rattle.graph_store.proofs.Contents.{found}
use Rattle.graph_store.proofs.Faults.{AreJoined, are_joined}
use Rattle.graph_store.proofs.Store.{linked_by}
use Rattle.graph_store.proofs.edge_store.EdgeStore.linked.Goals as goal

pub returns-then-name-self-clause-value : goal.returns-then-name-self-clause-value
returns-then-name-self-clause-value c =
    let places = c.self.invariant.is_rows.places in
    let past : length c.self.inside.rows.lists ≤ c.args.a = omega (arith, places, c.if-name-self.true, c.name.ensures.same) in
    sym (ap (λ l. has l c.args.b) (get_or_past c.self.inside.rows.lists c.args.a [] past))
    ∙ linked_by c.self.inside.nodes c.self.inside.here c.self.inside.rows.lists c.args.self.now.network c.args.a c.args.b (ap (λ (g : Graph). g.network) c.self.view_is) c.self.invariant.is_rows

pub row-requires : goal.row-requires
row-requires c =
    let places = c.self.invariant.is_rows.places in
    omega (arith, places, c.if-name-self.false, c.name.ensures.same)

pub find_place-requires : goal.find_place-requires
find_place-requires c = subst IsStrictlyIncreasing (sym c.row.ensures) (c.self.invariant.is_rows.rising c.args.a)

pub returns : goal.returns
returns c =
    let seen = ap (λ (g : Graph). g.network) c.self.view_is in
    let value =
    c.is_ok.ensures.value
    ∙ found c.row.result.now c.args.b c.find_place.result c.find_place.ensures
    ∙ ap (λ l. has l c.args.b) c.row.ensures
    ∙ linked_by c.self.inside.nodes c.self.inside.here c.self.inside.rows.lists c.args.self.now.network c.args.a c.args.b seen c.self.invariant.is_rows in
    let joined : c.is_ok.result ≡ true → AreJoined c.args.self.now.network c.args.a c.args.b = λ h. are_joined c.self.inside.nodes c.self.inside.here c.self.inside.rows.lists c.args.self.now.network c.args.a c.args.b seen c.self.invariant.is_rows (sym value ∙ h) in
    record {
      value = value;
      present = λ h. ((joined h).here, (joined h).there);
      apart = λ h. (joined h).apart;
    }
