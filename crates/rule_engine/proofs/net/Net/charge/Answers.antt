use Rattle.rule_engine.proofs.Prelude.{◌∙◌, sym, subst, IsStable, NetView}
use Rattle.rule_engine.proofs.net.Net.charge.Goals as goal

pub returns-clause-settled : goal.returns-clause-settled
returns-clause-settled g c none =
    let t = g.R.Rules.table in
    let stable = g.R.Rules.laws.charged.zero_is_stable c.self.inside.net.state c.self.invariant.0.budget.is_state (sym c.totals_of.ensures.charge ∙ none) in
    subst (λ (n : NetView). IsStable t.flags n.state) c.self.view_is stable
