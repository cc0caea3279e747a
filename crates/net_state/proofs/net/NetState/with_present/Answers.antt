use Rattle.net_state.proofs.Prelude.{◌≡◌, sym, ap₂, subst, State, IsState, opening_with, opening_is_state, state_of}
use Rattle.net_state.proofs.net.NetState.with_present.Goals as goal

pub invariant_of-result : goal.invariant_of-result
invariant_of-result c =
    let is : state_of c.in_ok-store.store.network c.in-Ok.registers ≡ opening_with c.args.nodes c.args.present = ap₂ state_of c.in_ok-store.ensures.ok c.in-Ok.ensures in
    subst (λ (s : State). IsState s) (sym is) (opening_is_state c.args.nodes c.args.present)
