use Rattle.net_state.proofs.Prelude.{◌≡◌, OnErr, OnOk, Result, Ok, Err, sym, subst, None, Network, IsState, Registers, link_fault, state_of, with_edge, ℕ}
use Rattle.net_state.proofs.Edges.{link_sound}
use Rattle.net_state.proofs.net.NetState.link.Goals as goal

-- if an edge is added, or nothing changes, a state stays a state
linked_sound : {T E : Type 0} (result : Result T E) (net after : Network) (r : Registers) (a b : ℕ) → OnOk result ((link_fault net a b ≡ None) × (after ≡ with_edge net a b)) → OnErr result (after ≡ net) → IsState (state_of net r) → IsState (state_of after r)
linked_sound (Ok x) net after r a b done kept good = subst (λ (n : Network). IsState (state_of n r)) (sym done.1) (link_sound (state_of net r) a b good done.0)
linked_sound (Err e) net after r a b done kept good = subst (λ (n : Network). IsState (state_of n r)) (sym kept) good

pub invariant_of-self : goal.invariant_of-self
invariant_of-self c = linked_sound c.link.result c.self.inside.store.network c.link.new.self.network c.self.inside.registers c.args.a c.args.b c.link.ensures.ok c.link.ensures.unchanged c.self.invariant

pub returns-clause-sound : goal.returns-clause-sound
returns-clause-sound c = invariant_of-self c
