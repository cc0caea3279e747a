use Rattle.rule_engine.proofs.Prelude.{◌≡◌, ◌∙◌, None, ap, sym, subst, rule_at, at_rest_idle, NetView, Moment, net_moment, StaysAtRest}
use Rattle.containment_laws.proofs.Proved.{contains_from, runs_leave_rest}
use Rattle.containment_laws.specs.Rest.{is_at_rest}
use Rattle.rule_engine.proofs.net.Net.is_at_rest.Goals as goal

pub returns : goal.returns
returns g c =
    let t = g.R.Rules.table in
    let laws = g.R.Rules.laws in
    let s = c.self.inside.net.state in
    let same : c.is_at_rest.result ≡ is_at_rest t.flags s c.args.v = c.is_at_rest.ensures ∙ ap (λ b. is_at_rest b s c.args.v) (c.FLAGS.ensures ∙ sym laws.uses_flags) in
    let start : Moment = record { state = s; spent = c.self.inside.spent } in
    record {
      rests = same ∙ ap (λ (n : NetView). is_at_rest t.flags n.state c.args.v) c.self.view_is;
      idle = λ rests. subst (λ (n : NetView). rule_at t n.state c.args.v ≡ None) c.self.view_is (at_rest_idle t laws.asks s c.args.v c.self.invariant.0.budget.is_state (sym same ∙ rests));
      stays = λ rests. subst (λ (n : NetView). StaysAtRest t (net_moment n) c.args.v) c.self.view_is
          (λ log end run calm. runs_leave_rest t (contains_from t laws.table laws.asks) start c.self.invariant.0.budget.is_state log end run calm c.args.v (sym same ∙ rests));
    }
