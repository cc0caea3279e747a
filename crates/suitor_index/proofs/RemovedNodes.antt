-- The index after a node without edges was removed.
use Rattle.suitor_index.proofs.Prelude.{ℕ, Bool, List, Option, sym, subst, State, IsState, StateView, Removed, Tally, WasIndexed, IsIndexed}
use Rattle.suitor_index.proofs.Nodes.{index_parted}

-- the tallies stay
pub index_freed : (above : Bool) (opens : Option ℕ → Bool → Bool) (kept : List Tally) (now : StateView) (v : ℕ) → WasIndexed above opens kept (Removed v) now → IsIndexed above opens now.state kept
index_freed above opens kept now v told =
    let n = told.0.state in
    let good = subst IsState told.1.0.made told.1.0.is_state in
    subst (λ (s : State). IsIndexed above opens s kept) (sym told.1.0.made) record {
      is_state = good;
      index = index_parted above opens n.network n.registers v kept told.1.0.was_state.is_network good.is_network told.1.0.due.0 told.1.1.index;
      few = told.1.1.few;
    }
