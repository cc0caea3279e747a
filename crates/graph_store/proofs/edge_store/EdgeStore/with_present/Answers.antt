use Rattle.graph_store.proofs.Prelude.{◌≡◌, ◌+◌, [], replicate, ap, sym, subst, ◌∙◌, first_names, network_of, IsStore}
use Rattle.graph_store.proofs.Store.{empty_network, empty_store}
use Rattle.graph_store.proofs.Results.{from_map_err}
use Rattle.graph_store.proofs.edge_store.EdgeStore.with_present.Goals as goal

pub invariant_of-result : goal.invariant_of-result
invariant_of-result c =
    let rows : c.in_ok-rows.rows.lists ≡ replicate (c.args.nodes + 1) [] = from_map_err (λ rows. rows.lists ≡ replicate (c.args.nodes + 1) []) c.new.result c.map_err.result c.in_ok-rows.rows _ c.in_ok-rows.was c.map_err.ensures.cases c.new.ensures in
    let here = from_map_err (λ set. set ≡ first_names c.args.nodes c.args.present) c.first_names.result c.map_err-2.result c.in_ok-here.here _ c.in_ok-here.was c.map_err-2.ensures.cases c.first_names.ensures in
    subst (λ roll. IsStore c.args.nodes roll 0 c.in_ok-rows.rows.lists) (sym here)
    (subst (IsStore c.args.nodes (first_names c.args.nodes c.args.present) 0) (sym rows) (empty_store c.args.nodes c.args.present c.if-nodes-gt-MAX_NAME.false))

pub returns-clause-ok : goal.returns-clause-ok
returns-clause-ok c =
    let rows : c.in_ok-rows.rows.lists ≡ replicate (c.args.nodes + 1) [] = from_map_err (λ rows. rows.lists ≡ replicate (c.args.nodes + 1) []) c.new.result c.map_err.result c.in_ok-rows.rows _ c.in_ok-rows.was c.map_err.ensures.cases c.new.ensures in
    let here = from_map_err (λ set. set ≡ first_names c.args.nodes c.args.present) c.first_names.result c.map_err-2.result c.in_ok-here.here _ c.in_ok-here.was c.map_err-2.ensures.cases c.first_names.ensures in
    ap (λ roll. network_of c.args.nodes roll c.in_ok-rows.rows.lists) here ∙ ap (network_of c.args.nodes (first_names c.args.nodes c.args.present)) rows ∙ empty_network c.args.nodes c.args.present
