use Rattle.net_state.proofs.Prelude.{◌≡◌, sym, ap, subst, ◌∙◌, Network, without_edge, Registers, IsState, points, without_pointer, unlink_keeps, StateView, state_of, rules}
use Rattle.net_state.proofs.Edges.{stays}
use Rattle.net_state.proofs.disturb.remove_edge.Goals as goal

pub invariant_of-net : goal.invariant_of-net
invariant_of-net g c =
    let net : Network = c.net.inside.store.network in
    let r : Registers = c.net.inside.registers in
    let there = ap (λ (n : StateView). points n.state.registers c.args.a c.args.b) c.net.view_is ∙ c.requires.not_there in
    let back = ap (λ (n : StateView). points n.state.registers c.args.b c.args.a) c.net.view_is ∙ c.requires.not_back in
    let same : without_pointer (without_pointer r c.args.a c.args.b) c.args.b c.args.a ≡ r = ap (λ q. without_pointer q c.args.b c.args.a) (stays r c.args.a c.args.b there) ∙ stays r c.args.b c.args.a back in
    subst (λ (n : Network). IsState (state_of n r)) (sym c.remove_edge.ensures.network) (subst (λ (q : Registers). IsState (state_of (without_edge net c.args.a c.args.b) q)) same (unlink_keeps (state_of net r) c.args.a c.args.b c.net.invariant))

pub saw-requires : goal.saw-requires
saw-requires g c = let kept = invariant_of-net g c in (c.args.net.now, (search rules, c.requires.fits))
