use Rattle.rule_engine.proofs.Prelude.{◌∙◌, ap, enabled_names}
use Rattle.rule_engine.proofs.EnabledRefresh.{members_on}
use Rattle.rule_engine.proofs.net.Net.enabled.Goals as goal

pub returns : goal.returns
returns g c = members_on g.R.Rules.table _ _ c.self.invariant.1.0.enabled ∙ ap (λ n. enabled_names g.R.Rules.table n.state) c.self.view_is
