use Rattle.net_state.proofs.Prelude.{◌≡◌, None, sym, subst, Network, IsState, link_fault, StateView, state_of, rules}
use Rattle.net_state.proofs.Edges.{link_sound}
use Rattle.net_state.proofs.disturb.link_reserved.Goals as goal

pub invariant_of-net : goal.invariant_of-net
invariant_of-net g c =
    let net : Network = c.net.inside.store.network in
    let free : link_fault net c.args.a c.args.b ≡ None = subst (λ (n : StateView). link_fault n.state.network c.args.a c.args.b ≡ None) (sym c.net.view_is) c.requires.free in
    subst (λ (n : Network). IsState (state_of n c.net.inside.registers)) (sym c.link_reserved.ensures.network) (link_sound (state_of net c.net.inside.registers) c.args.a c.args.b c.net.invariant free)

pub saw-requires : goal.saw-requires
saw-requires g c = let kept = invariant_of-net g c in (c.args.net.now, (search rules, c.requires.fits))
