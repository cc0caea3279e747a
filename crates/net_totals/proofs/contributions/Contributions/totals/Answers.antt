use Rattle.net_totals.proofs.Prelude.{◌∙◌, State, Contribution, node_part}
use Rattle.net_totals.proofs.ContributionSums.{closing_summed, lower_count, node_sum, turned_open}
use Rattle.net_totals.proofs.contributions.Contributions.totals.Goals as goal

pub returns : goal.returns
returns g c =
    let looked = c.look_again.ensures in
    let s : State = c.args.net.now.state in
    let it = c.look_again.new.self in
    let good = looked.exact.sound in
    let told = looked.exact.exact in
    record {
      exact = looked.exact;
      pairs = c.count.ensures ∙ lower_count s it.lower_ends good told.lower_places (λ v. (told.told v (looked.fresh v)).is_lower);
      «open» = c.count-2.ensures.count s.network looked.exact.counted
          ∙ turned_open g.R.Rules.COURTED_PAIR_CLOSES_EDGE s it.open_edges.stances.items good.is_network (λ v. (told.told v (looked.fresh v)).end);
      added = it.summed.in_all
          ∙ node_sum (λ (it : Contribution). it.added) (node_part (g.R.Rules.adds s) s) s.network it.each.items told.places (λ v. (told.told v (looked.fresh v)).added);
      closing = it.summed.closed
          ∙ closing_summed s good (g.R.Rules.closes s) (g.R.Rules.laws.null_closes_none s) it.each.items told.places (λ v. (told.told v (looked.fresh v)).closing);
    }
