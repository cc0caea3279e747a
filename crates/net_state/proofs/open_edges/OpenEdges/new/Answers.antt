use Rattle.net_state.proofs.Prelude.{◌≡◌, ◌+◌, ◌∙◌, replicate, ap, sym, subst, arith, length, length-replicate, Shut, open_edges, AreAllShut}
use Rattle.net_state.proofs.EdgeCounts.{all_shut, none_open}
use Rattle.net_state.proofs.open_edges.OpenEdges.new.Goals as goal

pub returns : goal.returns
returns c = λ net size.
    let places = c.args.nodes + 1 in
    let items : c.in_ok-stances.stances.items ≡ replicate places Shut = c.in_ok-stances.ensures.items_if_clones_equal (λ y same. same) in
    record {
      places = ap length items ∙ length-replicate places Shut ∙ ap (λ n. n + 1) (sym size);
      counted = ap (open_edges net) items ∙ none_open net (replicate places Shut) (all_shut places);
      few = omega arith;
      shut = λ _. subst AreAllShut (sym items) (all_shut places);
    }
