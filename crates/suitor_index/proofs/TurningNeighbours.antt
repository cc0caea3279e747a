-- If no entry is alone, no neighbour's guard turned.
use Rattle.suitor_index.proofs.Prelude.{◌≡◌, ℕ, Bool, true, not, beq, ◌&&◌, List, Option, is_none, nat_eq, nat_le, IsTrue, sym, ap, ap₂, ◌∙◌, count_by, list_any, and_parts, false_from_ne_true, true≢false, linked, neighbours, linked_back, linked_present, State, Registers, pointer, is_open, asks_for, is_reached, Tally, one_if, tally_of, HasNoneAlone, IsIndexed, is_null_with_none_but, may_turn, turns_with, TurnsNoneWith}
use Rattle.suitor_index.proofs.Counts.{others_counted}
use Rattle.suitor_index.proofs.NeighbourSums.{listed_is_linked}
use Rattle.suitor_index.proofs.NodeChanges.{IsHalfTold}
use Rattle.suitor_index.proofs.OpenTargets.{reached_is}

-- an entry is alone exactly if its guard turns with v
alone_turns : (above : Bool) (opens : Option ℕ → Bool → Bool) (s : State) (v w : ℕ) (is : Bool) (tallies : List Tally) → IsIndexed above opens s tallies → is ≡ is_open opens s v → IsTrue (linked s.network v w) → asks_for above w v ≡ true → is_null_with_none_but is (tally_of tallies w) ≡ turns_with above opens s v w
alone_turns above opens s v w is tallies index opened near asks =
    let good = index.is_state.is_network in
    let back = linked_back s.network w v ∙ near in
    let has = linked_present s.network w v good back in
    let entry = index.index.counted w has in
    let reaches : is ≡ is_reached above opens s w v = opened ∙ sym (reached_is above opens s w v ∙ ap (λ b. b && is_open opens s v) asks) in
    ap₂ (λ (o : Option ℕ) (n : ℕ). is_none o && nat_le n (one_if is)) (ap (λ (t : Tally). t.pointer) entry) (ap (λ (t : Tally). t.reached) entry)
    ∙ ap (λ b. is_none (pointer s w) && b)
    (ap (λ b. nat_le (count_by (is_reached above opens s w) (neighbours s.network w)) (one_if b)) reaches
    ∙ others_counted s.network (is_reached above opens s w) w v good back)

pub told_none : (above : Bool) (opens : Option ℕ → Bool → Bool) (r : Registers) (s : State) (v : ℕ) (start pointed : List Tally) (nodes : List ℕ) (was is : Bool) (tallies : List Tally) → IsHalfTold above opens r s v start pointed nodes was is → IsIndexed above opens s tallies → (not (beq was is) ≡ true → HasNoneAlone (λ k. list_any (nat_eq k) nodes && asks_for above k v) is tallies) → TurnsNoneWith above opens s v was is
told_none above opens r s v start pointed nodes was is tallies half index none w =
    false_from_ne_true _ (λ both.
    let parts = and_parts (not (beq was is)) (may_turn above opens s v w) both in
    let near = and_parts (linked s.network v w) (asks_for above w v && turns_with above opens s v w) parts.1 in
    let asks = and_parts (asks_for above w v) (turns_with above opens s v w) near.1 in
    let listed : list_any (nat_eq w) nodes ≡ true = ap (list_any (nat_eq w)) half.all ∙ listed_is_linked s.network v w index.is_state.is_network ∙ near.0 in
    let alone = alone_turns above opens s v w is tallies index half.now near.0 asks.0 ∙ asks.1 in
    true≢false (sym (ap₂ (λ (a b : Bool). a && b) (ap₂ (λ (a b : Bool). a && b) listed asks.0) alone) ∙ none parts.0 w))
