use Rattle.net_totals.proofs.Prelude.{◌≡◌, ◌+◌, Bool, false, List, length, replicate, ap, sym, subst, ◌∙◌, arith, length-replicate, State, Contribution, no_contribution, AreExactUnlessStale, FitsSixteenBits, All}
use Rattle.net_totals.proofs.StoredContributions.{none_light, told_at_first}
use Rattle.net_totals.proofs.contributions.Contributions.new.Goals as goal

pub invariant_of-result-clause-light : goal.invariant_of-result-clause-light
invariant_of-result-clause-light g c =
    let all : c.in_ok-each.each.items ≡ replicate (c.args.nodes + 1) no_contribution = c.in_ok-each.ensures.items_if_clones_equal (λ y same. same) in
    subst (All FitsSixteenBits) (sym all) (none_light (c.args.nodes + 1))

pub returns : goal.returns
returns g c = λ net good size.
    let exact = AreExactUnlessStale g.R.Rules.COURTED_PAIR_CLOSES_EDGE g.R.Rules.closes g.R.Rules.adds in
    let s : State = net.state in
    let n = s.network.size in
    let stale = c.mark_all.new.self in
    let first : length c.in_ok-stale.stale ≡ n + 1 = ap length c.in_ok-stale.ensures ∙ length-replicate (c.args.nodes + 1) _ ∙ ap (λ k. k + 1) (sym size) in
    let all : c.in_ok-each.each.items ≡ replicate (n + 1) no_contribution = c.in_ok-each.ensures.items_if_clones_equal (λ y same. same) ∙ ap (λ k. replicate (k + 1) no_contribution) (sym size) in
    let none : c.in_ok-lower_ends.lower_ends ≡ replicate (n + 1) false = c.in_ok-lower_ends.ensures ∙ ap (λ k. replicate (k + 1) false) (sym size) in
    let ends = c.in_ok-open_edges.open_edges.stances.items in
    record {
      sound = good;
      exact = subst (λ (l : List Contribution). exact s ends l c.in_ok-lower_ends.lower_ends stale) (sym all)
          (subst (λ (l : List Bool). exact s ends (replicate (n + 1) no_contribution) l stale) (sym none)
          (told_at_first g.R.Rules.COURTED_PAIR_CLOSES_EDGE g.R.Rules.closes g.R.Rules.adds s ends stale good (c.mark_all.ensures.places ∙ first) (λ v low high. c.mark_all.ensures.marked v low (omega (arith, first, high)))));
      counted = c.in_ok-open_edges.ensures net.state.network size;
    }
