use Rattle.net_state.proofs.Prelude.{◌≡◌, false, sym, subst, Network, neighbours, Registers, IsState, flag, flag_of, StateView, state_of, parted_is_state, rules, []}
use Rattle.net_state.proofs.disturb.remove_node.Goals as goal

pub invariant_of-net : goal.invariant_of-net
invariant_of-net g c =
    let net : Network = c.net.inside.store.network in
    let r : Registers = c.net.inside.registers in
    let none : neighbours net c.args.v ≡ [] = subst (λ (n : StateView). neighbours n.state.network c.args.v ≡ []) (sym c.net.view_is) c.requires.alone in
    let unflagged : flag_of r c.args.v ≡ false = subst (λ (n : StateView). flag n.state c.args.v ≡ false) (sym c.net.view_is) c.requires.unflagged in
    subst (λ (n : Network). IsState (state_of n r)) (sym c.part.ensures.place) (parted_is_state net r c.args.v c.net.invariant none unflagged)

pub saw-requires : goal.saw-requires
saw-requires g c = let kept = invariant_of-net g c in (c.args.net.now, (search rules, c.requires.fits))
