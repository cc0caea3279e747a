use Rattle.rule_engine.proofs.Prelude.{◌≡◌, ◌∙◌, arith, ap, sym, subst, node_count, BoundsMoves, smaller_bounds, NetView, smaller_bound, inside_from}
use Rattle.move_bounds.proofs.SilentMoves.{silent_moves}
use Rattle.rule_engine.proofs.net.Net.moves_left.Goals as goal

pub returns-then-is_quiet-clause-promise : goal.returns-then-is_quiet-clause-promise
returns-then-is_quiet-clause-promise g c log end run calm =
    let laws = g.R.Rules.laws in
    let t = g.R.Rules.table in
    let net = c.args.self.now in
    let quiet = c.is_quiet.ensures.quiet.0 c.if-is_quiet.true in
    let none = silent_moves t laws.table (inside_from t laws.table laws.asks) (record { state = net.state; spent = net.spent }) c.registers.ensures.state quiet log end run calm in
    omega (arith, none)

pub returns-clause-promise : goal.returns-clause-promise
returns-clause-promise g c =
    let laws = g.R.Rules.laws in
    let t = g.R.Rules.table in
    let weight = g.R.Rules.NODE_WEIGHT in
    let most = g.R.NodeBound.most in
    let net = c.args.self.now in
    let nodes = c.nodes.ensures.count ∙ ap node_count (c.store.ensures.network ∙ ap (λ (n : NetView). n.state.network) c.charge-charge.ensures.kept) in
    let value : c.smaller.result ≡ smaller_bound (t.charge net.state) (most (node_count net.state.network)) =
    c.smaller.ensures ∙ ap (λ n. smaller_bound n c.most_moves.result) c.charge-charge.ensures.charge ∙ ap (smaller_bound (t.charge net.state)) (c.most_moves.ensures ∙ ap most nodes) in
    subst (BoundsMoves t net.state net.spent) (sym value)
    (smaller_bounds t weight laws.table laws.charged most g.met.R.NodeBound.bounds_moves net.state net.spent c.registers.ensures.state)
