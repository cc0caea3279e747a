use Rattle.rule_engine.proofs.Prelude.{subst, IsState, maximal_from_stable, maximal_is_half, mutual_pairs, stable_from_maximal, AreOn, NetView}
use Rattle.rule_engine.proofs.EnabledRefresh.{quiet_by_count}
use Rattle.rule_engine.proofs.net.Net.is_quiet.Goals as goal

pub returns : goal.returns
returns g c =
    let t = g.R.Rules.table in
    let laws = g.R.Rules.laws in
    let s = c.args.self.now.state in
    let good : IsState s = subst (λ (n : NetView). IsState n.state) c.self.view_is c.self.invariant.0.budget.is_state in
    let on : AreOn t s c.self.inside.derived.enabled = subst (λ (n : NetView). AreOn t n.state c.self.inside.derived.enabled) c.self.view_is c.self.invariant.1.0.enabled in
    let quiet = quiet_by_count t s c.self.inside.derived.enabled c.count.result on c.count.ensures in
    record {
      quiet = quiet;
      stable = (λ yes. laws.quiet_is_stable s good (quiet.0 yes), λ stable. quiet.1 (laws.stable_is_quiet s good stable));
      matching = λ yes. maximal_from_stable t.flags s good (laws.quiet_is_stable s good (quiet.0 yes));
      half = λ yes other is. maximal_is_half s.network (mutual_pairs s) other (maximal_from_stable t.flags s good (laws.quiet_is_stable s good (quiet.0 yes))) is;
      only_stable = λ answered matching. quiet.1 (laws.stable_is_quiet s good (stable_from_maximal t.flags s good answered.answered answered.flagged matching));
    }
