use Rattle.net_totals.proofs.Prelude.{subst, sym, names_below, EdgeStance, AreExactUnlessStale, Vec, Global}
use Rattle.net_totals.proofs.Rounds.{told_after}
use Rattle.net_totals.proofs.contributions.ContributionsObserver.saw.Goals as goal

pub follow-requires : goal.follow-requires
follow-requires g c = (c.requires.0, (c.requires.1.0, c.requires.1.1.counted))

pub mark_names-requires : goal.mark_names-requires
mark_names-requires g c = names_below c.requires.0 c.args.net.now c.args.change _ c.requires.1.0 c.requires.1.1.exact.stale_places

pub returns-clause-fits : goal.returns-clause-fits
returns-clause-fits g c =
    let change = c.requires.1.0 in
    let was = c.args.self.now in
    record {
      sound = change.is_state;
      exact = told_after g.R.Rules.COURTED_PAIR_CLOSES_EDGE g.R.Rules.closes g.R.Rules.adds c.requires.0 c.args.net.now c.args.change c.follow.new.self.stances.items was.each.items was.lower_ends was.stale _ g.R.Rules.laws.near change c.mark_names.ensures.places c.mark_names.ensures.marked
          (subst (λ (v : Vec EdgeStance Global). AreExactUnlessStale g.R.Rules.COURTED_PAIR_CLOSES_EDGE g.R.Rules.closes g.R.Rules.adds c.requires.0.state v.items was.each.items was.lower_ends was.stale) (sym c.follow.ensures.stances) c.requires.1.1.exact);
      counted = c.follow.ensures.counts;
    }
