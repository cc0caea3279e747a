use Rattle.net_state.proofs.Prelude.{◌≡◌, ◌∙◌, true, sym, ap, ap₂, true≢false, present, edge_list, with_edge, link_refusal}
use Rattle.net_state.proofs.NetworkBuilding.{may_link, list_more, ends_present, names_same}
use Rattle.net_state.proofs.lines.link_all.Goals as goal

pub returns-then-not-has-clause-stranger : goal.returns-then-not-has-clause-stranger
returns-then-not-has-clause-stranger c = λ fails s good same listed.
    let net = c.loop-edge.net.state.network in
    let named = same ∙ sym (names_same net c.args.net.now.state.network c.loop-edge.invariant.size c.loop-edge.invariant.here) in
    let there = ends_present s net c.args.edges.now c.loop-edge.edge-index c.edge-item.result good named listed c.loop-edge-test.true c.edge-item.is in
    true≢false (sym there.0 ∙ ap (present net) (sym c.low.ensures.value) ∙ sym c.has.ensures ∙ c.if-not-has.true)

pub returns-then-not-has-2-clause-stranger : goal.returns-then-not-has-2-clause-stranger
returns-then-not-has-2-clause-stranger c = λ fails s good same listed.
    let net = c.loop-edge.net.state.network in
    let named = same ∙ sym (names_same net c.args.net.now.state.network c.loop-edge.invariant.size c.loop-edge.invariant.here) in
    let there = ends_present s net c.args.edges.now c.loop-edge.edge-index c.edge-item.result good named listed c.loop-edge-test.true c.edge-item.is in
    true≢false (sym there.1 ∙ ap (present net) (sym c.high.ensures.value) ∙ sym c.has-in-loop-edge.ensures ∙ c.if-not-has-2.true)

pub link-requires : goal.link-requires
link-requires c =
    let net = c.loop-edge.net.state.network in
    let low : present net c.edge-item.result.0 ≡ true = ap (present net) (sym c.low.ensures.value) ∙ sym c.has.ensures ∙ c.if-not-has.false in
    let high : present net c.edge-item.result.1 ≡ true = ap (present net) (sym c.high.ensures.value) ∙ sym c.has-in-loop-edge.ensures ∙ c.if-not-has-2.false in
    ap₂ (λ a b. link_refusal net a b) c.low-in-loop-edge.ensures.value c.high-in-loop-edge.ensures.value
    ∙ may_link net c.args.edges.now c.loop-edge.edge-index c.edge-item.result c.loop-edge.invariant.linked c.requires.rise c.loop-edge-test.true c.requires.few c.edge-item.is c.low.ensures.below low high

pub loop-edge-preserved : goal.loop-edge-preserved
loop-edge-preserved c =
    let net = c.loop-edge.net.state.network in
    let more = ap (λ s. s.network) c.in_ok-link.ensures.ok in
    record {
      linked = ap edge_list more ∙ ap₂ (λ a b. edge_list (with_edge net a b)) c.low-in-loop-edge.ensures.value c.high-in-loop-edge.ensures.value ∙ list_more net c.args.edges.now c.loop-edge.edge-index c.edge-item.result c.loop-edge.invariant.linked c.requires.rise c.loop-edge-test.true c.edge-item.is c.low.ensures.below;
      size = ap (λ n. n.size) more ∙ c.loop-edge.invariant.size;
      here = ap (λ n. n.here) more ∙ c.loop-edge.invariant.here;
    }
