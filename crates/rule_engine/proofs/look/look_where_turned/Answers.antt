use Rattle.rule_engine.proofs.Prelude.{◌≡◌, ◌∙◌, ◌&&◌, true, false, nat_eq, ap, sym, arith, take_all, neighbours, State, asks_for, turns_with}
use Rattle.rule_engine.proofs.GuardRefresh.{looked_alike, looked_more, looked_neighbours, looked_none}
use Rattle.rule_engine.proofs.AskingOrder.{looked_below}
use Rattle.rule_engine.proofs.look.look_where_turned.Goals as goal

pub loop-w-init : goal.loop-w-init
loop-w-init g c = record { set = looked_none g.R.Rules.table c.args.state.now.state _; noted = λ before h. h }

pub loop-w-preserved : goal.loop-w-preserved
loop-w-preserved g c =
    let s : State = c.args.state.now.state in
    let above = g.R.Rules.COURTS_HIGHER_ONLY in
    let opens = g.R.Rules.table.opens in
    let v = c.args.v in
    let w = c.w-item.result in
    let asks : asks_for above w v ≡ true = sym c.asks_for.ensures ∙ c.if-not-asks_for.false in
    record {
      set = looked_more g.R.Rules.table s (λ x. false) (λ y x. nat_eq x y && (asks_for above y v && turns_with above opens s v y)) c.neighbours-w-items.result.now c.loop-w.w-index w _ _ _ c.loop-w-test.true c.w-item.is c.loop-w.invariant.set
          (looked_alike g.R.Rules.table s (λ x. nat_eq x w && c.is_turned_by.result) (λ x. nat_eq x w && (asks_for above w v && turns_with above opens s v w)) _ _
          (λ x. ap (λ b. nat_eq x w && b) (c.is_turned_by.ensures ∙ sym (ap (λ a. a && turns_with above opens s v w) asks)))
          c.look_if.ensures.set);
      noted = λ before h. c.look_if.ensures.noted before (c.loop-w.invariant.noted before h);
    }

pub returns-then-not-asks_for-clause-set : goal.returns-then-not-asks_for-clause-set
returns-then-not-asks_for-clause-set g c =
    let s : State = c.args.state.now.state in
    let above = g.R.Rules.COURTS_HIGHER_ONLY in
    looked_below g.R.Rules.table s above c.args.v (λ y. turns_with above g.R.Rules.table.opens s c.args.v y) _ c.loop-w.w-index c.w-item.result _ _ c.store.ensures.state.is_network (c.neighbours-w-items.ensures.all ∙ ap (λ n. neighbours n c.args.v) c.store.ensures.value) c.loop-w-test.true c.w-item.is (sym c.asks_for.ensures ∙ c.if-not-asks_for.true) c.loop-w.invariant.set

pub returns-clause-set : goal.returns-clause-set
returns-clause-set g c =
    let s : State = c.args.state.now.state in
    let list = take_all c.loop-w.w-index c.neighbours-w-items.result.now (omega arith) in
    looked_neighbours g.R.Rules.table s c.args.v (λ y. asks_for g.R.Rules.COURTS_HIGHER_ONLY y c.args.v && turns_with g.R.Rules.COURTS_HIGHER_ONLY g.R.Rules.table.opens s c.args.v y) _ _ _ c.store.ensures.state.is_network (list ∙ c.neighbours-w-items.ensures.all ∙ ap (λ n. neighbours n c.args.v) c.store.ensures.value) c.loop-w.invariant.set
