use Rattle.rule_engine.proofs.Prelude.{◌∙◌, ◌&&◌, ap, sym, is_in_reach, disturbs, NetView}
use Rattle.rule_engine.proofs.net.Net.would_reach.Goals as goal

pub returns-then-is_disturbance : goal.returns-then-is_disturbance
returns-then-is_disturbance g c =
    let t = g.R.Rules.table in
    let event = c.args.event.now in
    let s = c.args.self.now.state in
    let same = ap (λ (n : NetView). n.state) c.self.view_is in
    c.is_in_reach.ensures ∙ ap (λ u. is_in_reach u event c.args.v) same
    ∙ sym (ap (λ b. b && is_in_reach s event c.args.v) (ap (λ u. disturbs t u event) (sym c.index.ensures.state) ∙ sym c.is_disturbance.ensures ∙ c.if-is_disturbance.true))
