use Rattle.net_totals.proofs.Prelude.{length, members, IsExactState}
use Rattle.net_totals.proofs.contributions.Contributions.look_again.Given as goal

abbrev pub invariant-loop-v : goal.invariant-loop-v
invariant-loop-v g l = IsExactState g.R.Rules.COURTED_PAIR_CLOSES_EDGE g.R.Rules.closes g.R.Rules.adds l.net l.self.open_edges l.self.each.items l.self.lower_ends l.self.stale

abbrev pub decreases-loop-v : goal.decreases-loop-v
decreases-loop-v g l = length (members l.self.stale)
