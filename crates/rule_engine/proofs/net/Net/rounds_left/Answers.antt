use Rattle.rule_engine.proofs.Prelude.{◌≡◌, ◌∙◌, ℕ, ap, arith, node_count, NetView, net_moment}
use Rattle.std.specs.Prelude.{◌-◌, min}
use Rattle.rule_engine.proofs.RoundsLeft.{leaves_if, left_is, none_is, none_left}
use Rattle.rule_engine.proofs.net.Net.rounds_left.Goals as goal

pub returns-in_default-clause-value : goal.returns-in_default-clause-value
returns-in_default-clause-value g c = none_is g.R.Rules.table g.R.NodeBound.most g.R.NodeBound.rounds c.args.self.now.state c.args.self.now.counting _ c.rounds.ensures.count c.in_default.is

pub returns-in_default-clause-left : goal.returns-in_default-clause-left
returns-in_default-clause-left g c = none_left g.R.Rules.table (net_moment c.args.self.now) c.args.self.now.counting _ c.rounds.ensures.count c.in_default.is

pub returns : goal.returns
returns g c =
    let t = g.R.Rules.table in
    let laws = g.R.Rules.laws in
    let net = c.args.self.now in
    let moves = c.moves_left-moves.result in
    let nodes = c.nodes.ensures.count ∙ ap node_count (c.store.ensures.network ∙ ap (λ (n : NetView). n.state.network) c.moves_left-moves.ensures.kept) in
    let allows : c.most_rounds-most.result ≡ g.R.NodeBound.rounds (node_count net.state.network) = c.most_rounds-most.ensures ∙ ap g.R.NodeBound.rounds nodes in
    let sub : c.saturating_sub.result ≡ c.most_rounds-most.result - c.in-Some.complete = c.saturating_sub.ensures in
    let least : c.min.result ≡ min c.saturating_sub.result moves = grind (arith, c.min.ensures) in
    let left = least ∙ ap (λ (n : ℕ). min n moves) sub in
    record {
      value = left_is t g.R.NodeBound.most g.R.NodeBound.rounds net.state net.counting _ c.in-Some.complete c.most_rounds-most.result moves c.min.result c.rounds.ensures.count c.in-Some.is allows c.moves_left-moves.ensures.value left;
      left = leaves_if t g.R.Rules.NODE_WEIGHT laws.table laws.charged g.R.NodeBound.rounds g.met.R.NodeBound.bounds_rounds (net_moment net) net.counting _ c.in-Some.complete c.most_rounds-most.result moves c.min.result c.rounds.ensures.count c.in-Some.is c.rounds.ensures.some allows c.moves_left-moves.ensures.promise c.moves_left-moves.ensures.silent left;
      kept = c.moves_left-moves.ensures.kept;
    }
