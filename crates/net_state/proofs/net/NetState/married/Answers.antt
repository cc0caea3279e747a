use Rattle.net_state.proofs.Prelude.{◌≡◌, ◌∙◌, sym, subst, married, married_answered, StateView, state_of}
use Rattle.net_state.proofs.net.NetState.married.Goals as goal

pub returns : goal.returns
returns c =
    let s = state_of c.self.inside.store.network c.self.inside.registers in
    subst (λ (n : StateView). c.married.result ≡ married n.state c.args.v) c.self.view_is (c.married.ensures ∙ sym (married_answered s c.args.v c.self.invariant))
