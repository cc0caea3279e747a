use Rattle.rule_engine.proofs.Prelude.{◌∙◌, ap, sym, NetView, enabled_names}
use Rattle.rule_engine.proofs.EnabledRefresh.{members_on}
use Rattle.rule_engine.proofs.net.Net.prepare_enabled.Goals as goal

pub enabled_rules-requires : goal.enabled_rules-requires
enabled_rules-requires g c =
    let t = g.R.Rules.table in
    c.deref.ensures.value ∙ c.in_ok-nodes.ensures ∙ members_on t _ _ c.self.invariant.1.0.enabled
    ∙ ap (λ (n : NetView). enabled_names t n.state) c.self.view_is ∙ sym (ap (enabled_names t) c.index.ensures.state)
