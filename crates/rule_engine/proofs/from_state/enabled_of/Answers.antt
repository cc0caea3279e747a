use Rattle.rule_engine.proofs.Prelude.{◌≡◌, ◌+◌, ◌<◌, ◌∙◌, ℕ, Option, Some, sym, ap, subst, arith, State, StateView, is_some, is_enabled_at}
use Rattle.std.specs.Prelude.{SomeIff}
use Rattle.rule_engine.proofs.EnabledNames.{on_first, on_more, on_less, on_all}
use Rattle.rule_engine.proofs.from_state.enabled_of.Goals as goal
use Rattle.rule_engine.proofs.from_state.enabled_of.Goals.{then-is_some, else-is_some}

-- the name that was made
named : (o : Option ℕ) (P : Type 0) (x v : ℕ) → SomeIff o P x → o ≡ Some v → v ≡ x
named o P x v made is = (subst (λ q. SomeIff q P x) is made).1

pub loop-below-init : goal.loop-below-init
loop-below-init g c =
    on_first g.R.Rules.table c.args.state.now.state c.capacity-capacity.result c.in_ok-enabled.enabled
    (c.capacity-capacity.ensures.size ∙ ap (λ (n : StateView). n.state.network.size) c.net.ensures.value)
    c.in_ok-enabled.ensures

pub loop-below-preserved : goal.loop-below-preserved
loop-below-preserved g c =
    let t = g.R.Rules.table in
    let s : State = c.args.state.now.state in
    let below = c.loop-below.below in
    let v = c.unwrap-v.result in
    let at : v ≡ below + 1 = named c.new-in-loop-below.result _ (below + 1) v c.new-in-loop-below.ensures c.unwrap-v.ensures in
    let size : c.capacity-capacity.result ≡ s.network.size = c.capacity-capacity.ensures.size ∙ ap (λ (n : StateView). n.state.network.size) c.net.ensures.value in
    let within : below < s.network.size = omega (arith, c.loop-below-test.true, size) in
    let is_on : is_enabled_at t s v ≡ c.is_some.result = sym (ap is_some c.rule_enabled.ensures) ∙ sym c.is_some.ensures in
    elim c.if-is_some.branch [
      | then-is_some w ↦ on_more t s below v c.loop-below.enabled c.if-is_some.enabled c.loop-below.invariant at within (is_on ∙ w.if-is_some.true) (w.enabled-is ∙ w.insert.ensures)
      | else-is_some w ↦ on_less t s below v c.loop-below.enabled c.if-is_some.enabled c.loop-below.invariant at (is_on ∙ w.if-is_some.false) w.enabled-is
    ]

pub returns : goal.returns
returns g c =
    let s : State = c.args.state.now.state in
    let size : c.capacity-capacity.result ≡ s.network.size = c.capacity-capacity.ensures.size ∙ ap (λ (n : StateView). n.state.network.size) c.net.ensures.value in
    on_all g.R.Rules.table s c.loop-below.below c.loop-below.enabled (omega (arith, c.loop-below-test.false, size)) c.loop-below.invariant
