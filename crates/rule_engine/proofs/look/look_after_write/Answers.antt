use Rattle.rule_engine.proofs.Prelude.{◌∙◌, ◌&&◌, ◌||◌, nat_eq, ap, sym, or-false, State, is_suitor, may_change_guard, may_turn}
use Rattle.rule_engine.proofs.GuardRefresh.{looked_alike, looked_both}
use Rattle.rule_engine.proofs.look.look_after_write.Goals as goal

pub returns-then-turned-clause-set : goal.returns-then-turned-clause-set
returns-then-turned-clause-set g c =
    let s : State = c.args.state.now.state in
    let t = g.R.Rules.table in
    let above = g.R.Rules.COURTS_HIGHER_ONLY in
    let v = c.args.v in
    looked_alike t s (λ w. (nat_eq w v || is_suitor s v w) || may_turn above t.opens s v w) (may_change_guard above t.opens s v c.args.turned) _ _
    (λ w. ap (λ b. (nat_eq w v || is_suitor s v w) || (b && may_turn above t.opens s v w)) (sym c.if-turned.true))
    (looked_both t s (λ w. nat_eq w v || is_suitor s v w) (may_turn above t.opens s v) _ _ _
    (looked_both t s (λ w. nat_eq w v) (is_suitor s v) _ _ _ c.look_at.ensures.set c.look_at_suitors.ensures.set)
    c.look_where_turned.ensures.set)

pub returns-else-turned-clause-set : goal.returns-else-turned-clause-set
returns-else-turned-clause-set g c =
    let s : State = c.args.state.now.state in
    let t = g.R.Rules.table in
    let above = g.R.Rules.COURTS_HIGHER_ONLY in
    let v = c.args.v in
    looked_alike t s (λ w. nat_eq w v || is_suitor s v w) (may_change_guard above t.opens s v c.args.turned) _ _
    (λ w. sym (or-false (nat_eq w v || is_suitor s v w)) ∙ ap (λ b. (nat_eq w v || is_suitor s v w) || (b && may_turn above t.opens s v w)) (sym c.if-turned.false))
    (looked_both t s (λ w. nat_eq w v) (is_suitor s v) _ _ _ c.look_at.ensures.set c.look_at_suitors.ensures.set)

pub returns-then-turned-clause-noted : goal.returns-then-turned-clause-noted
returns-then-turned-clause-noted g c = λ before noted. c.look_where_turned.ensures.noted before (c.look_at_suitors.ensures.noted before (c.look_at.ensures.noted before noted))
