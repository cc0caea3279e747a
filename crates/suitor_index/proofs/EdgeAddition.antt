-- An index that is updated for an edge that comes or goes.
use Rattle.suitor_index.proofs.Prelude.{◌≡◌, ℕ, ◌≤◌, Bool, true, false, not, ◌&&◌, List, Option, refl, sym, ap, subst, ◌∙◌, eq_by_cmp, eq-eqb, false_from_ne_true, true≢false, or_left, eq_by_cmp_equiv, Network, pair_cmp, edge, linked, State, IsState, points, pointer, flag, linked_with_other, linked_without_other, may_link, pair_total, contains-insert, contains-remove, linked_comm, linked_apart, linked_present, linked_back, points_true, pointer_linked, Tally, StateView, state_of, Linked, Unlinked, WasIndexed, asks_for, tally_of, IsIndexOf, IsIndexed, IsTurned, CanTurn}
use Rattle.suitor_index.proofs.Ends.{IsEdgeTurn, edge_swapped, end_of, end_elsewhere, end_can_turn, index_ends}
use Rattle.suitor_index.proofs.Loops.{can_turn_still}

-- the state is sound, and the tallies are those of the state before, which differs in one edge
pub record IsEdgeTold (above : Bool) (opens : Option ℕ → Bool → Bool) (start : List Tally) (now : State) (a b : ℕ) (was is : Bool) : Type 0 where
  pub network : Network
  pub turn : IsEdgeTurn network now.network now.registers a b was is
  pub index : IsIndexOf above opens (state_of network now.registers) start
  pub is_state : IsState now
  pub few : now.network.size ≤ 65535

same_pair : (a b : ℕ) → eq_by_cmp pair_cmp (edge a b) (edge a b) ≡ true
same_pair a b = (eq_by_cmp_equiv pair_total).refl (edge a b)

no_pointer_across : (s : State) (a b : ℕ) → IsState s → linked s.network a b ≡ false → points s.registers a b ≡ false
no_pointer_across s a b good absent =
    false_from_ne_true (points s.registers a b) (λ at. true≢false (sym (pointer_linked s a b good (points_true s a b at)) ∙ absent))

pub linked_told : (above : Bool) (opens : Option ℕ → Bool → Bool) (start : List Tally) (now : StateView) (a b : ℕ) → WasIndexed above opens start (Linked a b) now → IsEdgeTold above opens start now.state a b false true
linked_told above opens start now a b told =
    let n = told.0.state in
    let free = may_link n.network a b told.1.0.due in
    subst (λ (s : State). IsEdgeTold above opens start s a b false true) (sym told.1.0.made) record {
      network = n.network;
      turn = record {
        same = refl;
        has_a = free.here_a;
        has_b = free.here_b;
        apart = λ same. true≢false (sym (eq-eqb a b same) ∙ free.apart);
        before = free.fresh;
        after = contains-insert n.network.edges (edge a b) (edge a b) ∙ or_left _ _ (same_pair a b);
        others = λ k x not_ab not_ba. sym (linked_with_other n.network a b k x not_ab not_ba);
        not_there = no_pointer_across n a b told.1.0.was_state free.fresh;
        not_back = no_pointer_across n b a told.1.0.was_state (linked_comm n.network b a ∙ free.fresh);
      };
      index = told.1.1.index;
      is_state = subst IsState told.1.0.made told.1.0.is_state;
      few = told.1.1.few;
    }

pub unlinked_told : (above : Bool) (opens : Option ℕ → Bool → Bool) (start : List Tally) (now : StateView) (a b : ℕ) → WasIndexed above opens start (Unlinked a b) now → IsEdgeTold above opens start now.state a b true false
unlinked_told above opens start now a b told =
    let n = told.0.state in
    let good = told.1.0.was_state.is_network in
    let there = told.1.0.due.0 in
    subst (λ (s : State). IsEdgeTold above opens start s a b true false) (sym told.1.0.made) record {
      network = n.network;
      turn = record {
        same = refl;
        has_a = linked_present n.network a b good there;
        has_b = linked_present n.network b a good (linked_back n.network b a ∙ there);
        apart = linked_apart n.network a b good there;
        before = there;
        after = contains-remove n.network.edges (edge a b) (edge a b) ∙ ap (λ t. not t && linked n.network a b) (same_pair a b);
        others = λ k x not_ab not_ba. sym (linked_without_other n.network a b k x not_ab not_ba);
        not_there = told.1.0.due.1.0;
        not_back = told.1.0.due.1.1;
      };
      index = told.1.1.index;
      is_state = subst IsState told.1.0.made told.1.0.is_state;
      few = told.1.1.few;
    }

-- the counts can follow, at one end and then at the other
pub first_turns : (above : Bool) (opens : Option ℕ → Bool → Bool) (start : List Tally) (now : State) (a b : ℕ) (was is : Bool) → IsEdgeTold above opens start now a b was is → (asks_for above a b && opens (pointer now b) (flag now b)) ≡ true → CanTurn was is (tally_of start a)
first_turns above opens start now a b was is told = end_can_turn above opens told.network now.network now.registers a b was is start told.turn told.index told.few

pub second_turns : (above : Bool) (opens : Option ℕ → Bool → Bool) (start : List Tally) (now : State) (a b : ℕ) (was is : Bool) → IsEdgeTold above opens start now a b was is → (half : List Tally) → IsTurned (end_of above opens now.registers b a) was is start half → (asks_for above b a && opens (pointer now a) (flag now a)) ≡ true → CanTurn was is (tally_of half b)
second_turns above opens start now a b was is told half one counts =
    can_turn_still was is (end_of above opens now.registers b a) start half b one (end_elsewhere above opens now.registers b a b (λ same. told.turn.apart (sym same)))
    (end_can_turn above opens told.network now.network now.registers b a was is start (edge_swapped told.network now.network now.registers a b was is told.turn) told.index told.few counts)

-- then the tallies are those of the state
pub edge_index : (above : Bool) (opens : Option ℕ → Bool → Bool) (start : List Tally) (now : State) (a b : ℕ) (was is : Bool) → IsEdgeTold above opens start now a b was is → (half done : List Tally) → IsTurned (end_of above opens now.registers b a) was is start half → IsTurned (end_of above opens now.registers a b) was is half done → IsIndexed above opens now done
edge_index above opens start now a b was is told half done one two = record {
  is_state = told.is_state;
  index = index_ends above opens told.network now.network now.registers a b was is start half done told.turn told.index one two;
  few = told.few;
}
