use Rattle.rule_engine.proofs.Prelude.{◌≡◌, ◌∙◌, ap, length, Counts, node_count, edge_count, State, NetView, enabled_names, mutual_pairs}
use Rattle.rule_engine.proofs.EnabledRefresh.{members_on}
use Rattle.rule_engine.proofs.net.Net.status.Goals as goal

pub returns-clause-reply : goal.returns-clause-reply
returns-clause-reply g c =
    let t = g.R.Rules.table in
    let s = c.args.self.now.state in
    let same = c.self.view_is in
    let after = ap (λ (n : NetView). n.state) same in
    let nodes : c.nodes.result ≡ node_count s.network = c.nodes.ensures.count ∙ ap (λ (u : State). node_count u.network) after in
    let edges : c.edges.result ≡ edge_count s.network = c.edges.ensures.count ∙ ap (λ (u : State). edge_count u.network) after in
    let pairs = c.totals_of-totals.ensures.pairs ∙ ap (λ (n : NetView). length (mutual_pairs n.state)) same in
    let enabled : c.count.result ≡ length (enabled_names t s) = c.count.ensures ∙ ap length (members_on t _ _ c.totals_of-totals.ensures.derived.enabled ∙ ap (enabled_names t) after) in
    let charge = c.totals_of-totals.ensures.charge ∙ ap (λ (n : NetView). t.charge n.state) same in
    let spent = ap (λ (n : NetView). n.spent) same in
    λ i. Counts (record { nodes = nodes i; edges = edges i; pairs = pairs i; enabled = enabled i; charge = charge i; spent = spent i })
