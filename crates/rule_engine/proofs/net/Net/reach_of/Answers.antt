use Rattle.rule_engine.proofs.Prelude.{◌≡◌, ◌∙◌, IfOk, disturbs, filter, sym, ap, subst, IfOk-weaker, names, is_in_reach, NetView, arith, length}
use Rattle.rule_engine.proofs.ReachLists.{accepted_reach, refused_reach, few_reached, spares_others}
use Rattle.rule_engine.proofs.net.Net.reach_of.Goals as goal

pub returns-then-not-is_disturbance : goal.returns-then-not-is_disturbance
returns-then-not-is_disturbance g c =
    let t = g.R.Rules.table in
    let s = c.args.self.now.state in
    let event = c.args.event.now in
    let none = c.new.ensures.items ∙ refused_reach t s event (ap (λ u. disturbs t u event) (sym c.index.ensures.state) ∙ sym c.is_disturbance.ensures ∙ c.if-not-is_disturbance.true) in
    record {
      reach = none;
      few = omega (arith, ap length c.new.ensures.items);
      spares = spares_others t g.R.Rules.laws.table s c.index.ensures.sound c.args.self.now.spent event c.new.result.items none;
    }

pub returns : goal.returns
returns g c =
    let t = g.R.Rules.table in
    let s = c.args.self.now.state in
    let event = c.args.event.now in
    let lists : IfOk c.list_reach.result (λ list. list.items ≡ filter (is_in_reach s event) (names s.network)) =
    subst (λ (n : NetView). IfOk c.list_reach.result (λ list. list.items ≡ filter (is_in_reach n.state event) (names n.state.network))) c.self.view_is c.list_reach.ensures in
    let same = accepted_reach t s event (ap (λ u. disturbs t u event) (sym c.index.ensures.state) ∙ sym c.is_disturbance.ensures ∙ c.if-not-is_disturbance.false) in
    record {
      reach = IfOk-weaker c.list_reach.result _ _ (λ list is. is ∙ same) lists;
      few = IfOk-weaker c.list_reach.result _ _ (λ list is. few_reached s event list.items c.index.ensures.sound is) lists;
      spares = IfOk-weaker c.list_reach.result _ _ (λ list is. spares_others t g.R.Rules.laws.table s c.index.ensures.sound c.args.self.now.spent event list.items (is ∙ same)) lists;
    }
