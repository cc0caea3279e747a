use Rattle.rule_engine.proofs.Prelude.{◌≡◌, ◌∙◌, ◌&&◌, List, ℕ, false, nat_eq, take, ap, ap₂, sym, arith, take_all, StateView, neighbours, State, has_suitor, suits, is_suitor}
use Rattle.rule_engine.proofs.GuardRefresh.{looked_alike, looked_more, looked_neighbours, looked_none, looked_unsuited}
use Rattle.rule_engine.proofs.look.look_at_suitors.Goals as goal

pub returns-then-not-has_suitor-clause-set : goal.returns-then-not-has_suitor-clause-set
returns-then-not-has_suitor-clause-set g c =
    let s : State = c.args.state.now.state in
    let seen : c.has_suitor.result ≡ has_suitor s c.args.v = c.has_suitor.ensures ∙ ap₂ (λ (n : StateView) (x : ℕ). has_suitor n.state x) c.at.ensures.state c.at.ensures.node in
    let none : has_suitor s c.args.v ≡ false = sym seen ∙ c.if-not-has_suitor.true in
    looked_unsuited g.R.Rules.table s c.args.v _ c.store.ensures.state.is_network none

pub returns-in-Some-clause-set : goal.returns-in-Some-clause-set
returns-in-Some-clause-set g c =
    let s : State = c.args.state.now.state in
    looked_alike g.R.Rules.table s (λ x. nat_eq x c.in-Some.w) (is_suitor s c.args.v) _ _ (λ x. sym (c.in-Some.ensures.alone x)) c.look_at.ensures.set

pub loop-w-init : goal.loop-w-init
loop-w-init g c = record { set = looked_none g.R.Rules.table c.args.state.now.state _; noted = λ before h. h }

pub loop-w-preserved : goal.loop-w-preserved
loop-w-preserved g c =
    let s : State = c.args.state.now.state in
    let v = c.args.v in
    let w = c.w-item.result in
    record {
      set = looked_more g.R.Rules.table s (λ x. false) (λ y x. nat_eq x y && suits s v y) c.neighbours-neighbours.result.now c.loop-w.w-index w _ _ _ c.loop-w-test.true c.w-item.is c.loop-w.invariant.set
          (looked_alike g.R.Rules.table s (λ x. nat_eq x w && c.points.result) (λ x. nat_eq x w && suits s v w) _ _
          (λ x. ap (λ b. nat_eq x w && b) c.points.ensures)
          c.look_if.ensures.set);
      noted = λ before h. c.look_if.ensures.noted before (c.loop-w.invariant.noted before h);
    }

pub returns-clause-set : goal.returns-clause-set
returns-clause-set g c =
    let s : State = c.args.state.now.state in
    let list : List ℕ = c.neighbours-neighbours.result.now in
    let every : list ≡ neighbours s.network c.args.v = c.neighbours-neighbours.ensures.all ∙ ap (λ n. neighbours n c.args.v) c.store.ensures.value in
    looked_neighbours g.R.Rules.table s c.args.v (suits s c.args.v) (take c.loop-w.w-index list) _ _ c.store.ensures.state.is_network (take_all c.loop-w.w-index list (omega arith) ∙ every) c.loop-w.invariant.set
