-- Presence changes none of the counts, except at a node that joins.
use Rattle.suitor_index.proofs.Prelude.{◌&&◌, ◌≡◌, ◌≢◌, ℕ, ◌+◌, ◌%◌, ◌≤◌, Bool, true, false, cond, None, Some, IfSome, List, ◌∷◌, filter, replicate, set, Option, IsTrue, refl, sym, ap, subst, ◌∙◌, ⊎_elim, arith, count_by, sum_by, range_with_len, cases_eq, false_from_ne_true, true≢false, get_or-replicate, get_or-set_same, get_or-set_other, length-replicate, length-set, Network, IsNetwork, edge, present, linked, neighbours, with_node, State, Registers, IsState, pointer_of, opening_with, suits, is_open, contains-empty, present_other, with_node_is_network, linked_present, neighbours_range, present_range, opening_is_state, Tally, state_of, asks_for, empty_tally, reduced, tally_of, tally_at, name_if, IsIndexOf, IsIndexed, []}
use Rattle.suitor_index.proofs.OpenTargets.{open_is}

-- what a scan of these nodes counts
abbrev tally_over : Bool → (Option ℕ → Bool → Bool) → Network → Registers → ℕ → List ℕ → Tally
tally_over above opens net r v nodes = record {
  suitors = count_by (suits (state_of net r) v) nodes;
  reached = count_by (λ w. asks_for above v w && is_open opens (state_of net r) w) nodes;
  sum = sum_by (name_if (suits (state_of net r) v)) nodes % 65536;
  pointer = pointer_of r v;
}

over_all : (above : Bool) (opens : Option ℕ → Bool → Bool) (net : Network) (r : Registers) (v : ℕ) → tally_at above opens (state_of net r) v ≡ tally_over above opens net r v (neighbours net v)
over_all above opens net r v =
    let now = tally_at above opens (state_of net r) v in
    λ i. record { suitors = now.suitors; reached = open_is above opens (state_of net r) v i; sum = now.sum; pointer = now.pointer }

-- a network with another row of present nodes
abbrev with_row : Network → List Bool → Network
with_row net row = record net { here = row }

-- a node's tally depends on its edges alone
tally_stays : (above : Bool) (opens : Option ℕ → Bool → Bool) (net : Network) (row : List Bool) (r : Registers) (k : ℕ) → IsNetwork net → IsNetwork (with_row net row) → tally_at above opens (state_of net r) k ≡ tally_at above opens (state_of (with_row net row) r) k
tally_stays above opens net row r k good now =
    over_all above opens net r k
    ∙ ap (tally_over above opens net r k) (neighbours_range net k good ∙ sym (neighbours_range (with_row net row) k now))
    ∙ sym (over_all above opens (with_row net row) r k)

none_pass : (p : ℕ → Bool) (xs : List ℕ) → ((x : ℕ) → p x ≡ false) → filter p xs ≡ []
none_pass p [] h = refl
none_pass p (x ∷ xs) h = ap (λ b. cond b (x ∷ filter p xs) (filter p xs)) (h x) ∙ none_pass p xs h

-- all counts of a node without an edge are 0, and its pointer is null
pub nothing_counted : (above : Bool) (opens : Option ℕ → Bool → Bool) (net : Network) (r : Registers) (v : ℕ) → ((w : ℕ) → linked net v w ≡ false) → pointer_of r v ≡ None → tally_at above opens (state_of net r) v ≡ empty_tally
nothing_counted above opens net r v apart null =
    over_all above opens net r v
    ∙ ap (tally_over above opens net r v) (none_pass (linked net v) (filter (present net) (range_with_len 1 net.size)) apart)
    ∙ ap (λ (p : Option ℕ). let t : Tally = record empty_tally { pointer = p } in t) null

-- a pointer is null if it would need an edge that is not there
null_pointer : (p : Option ℕ) (near : ℕ → Bool) → IfSome p (λ w. IsTrue (near w)) → ((w : ℕ) → near w ≡ false) → p ≡ None
null_pointer None near h apart = refl
null_pointer (Some w) near h apart = absurd (true≢false (sym h ∙ apart w))

-- the place of a name that becomes present is cleared
pub index_joined : (above : Bool) (opens : Option ℕ → Bool → Bool) (net : Network) (r : Registers) (v : ℕ) (tallies : List Tally) → IsState (state_of net r) → 1 ≤ v → v ≤ net.size → present net v ≡ false → IsIndexOf above opens (state_of net r) tallies → IsIndexOf above opens (state_of (with_node net v) r) (set tallies v empty_tally)
index_joined above opens net r v tallies good low high absent index =
    let places = index.places in
    let is_network = with_node_is_network net v low good.is_network in
    let apart : (w : ℕ) → linked net v w ≡ false = λ w. false_from_ne_true (linked net v w) (λ h. true≢false (sym (linked_present net v w good.is_network h) ∙ absent)) in
    record {
      places = length-set tallies v empty_tally ∙ index.places;
      counted = λ k has.
          ⊎_elim
          (λ (here : k ≡ v).
          ap reduced (ap (tally_of (set tallies v empty_tally)) here ∙ get_or-set_same tallies v empty_tally empty_tally (omega arith))
          ∙ sym (ap (tally_at above opens (state_of (with_node net v) r)) here ∙ nothing_counted above opens (with_node net v) r v apart (null_pointer (pointer_of r v) (linked net v) (good.neighbourly v) apart)))
          (λ (other : k ≢ v).
          ap reduced (get_or-set_other tallies v k empty_tally empty_tally other)
          ∙ index.counted k (sym (present_other net v true k other) ∙ has)
          ∙ tally_stays above opens net (set net.here v true) r k good.is_network is_network)
          (cases_eq k v);
    }

-- a name that goes without an edge leaves the others' places as they are
pub index_parted : (above : Bool) (opens : Option ℕ → Bool → Bool) (net : Network) (r : Registers) (v : ℕ) (tallies : List Tally) → IsNetwork net → IsNetwork (record net { here = set net.here v false }) → IsTrue (present net v) → IsIndexOf above opens (state_of net r) tallies → IsIndexOf above opens (state_of (record net { here = set net.here v false }) r) tallies
index_parted above opens net r v tallies good now was index = record {
  places = index.places;
  counted = λ k has.
      index.counted k (⊎_elim (λ (here : k ≡ v). ap (present net) here ∙ was) (λ (other : k ≢ v). sym (present_other net v false k other) ∙ has) (cases_eq k v))
      ∙ tally_stays above opens net (set net.here v false) r k good now;
}

-- at first there is no edge, and all counts are 0
pub indexed_at_first : (above : Bool) (opens : Option ℕ → Bool → Bool) (size count : ℕ) (s : State) (tallies : List Tally) → size ≤ 65535 → s ≡ opening_with size count → tallies ≡ replicate (size + 1) empty_tally → IsIndexed above opens s tallies
indexed_at_first above opens size count s tallies few at all =
    subst (λ (t : State). IsIndexed above opens t tallies) (sym at) (subst (IsIndexed above opens (opening_with size count)) (sym all) record {
      is_state = opening_is_state size count;
      index = record {
        places = length-replicate (size + 1) empty_tally;
        counted = λ v here.
            let within = present_range (opening_with size count).network v here in
            ap reduced (get_or-replicate (size + 1) v empty_tally empty_tally (let high : v ≤ size = within.1 in omega arith))
            ∙ sym (nothing_counted above opens (opening_with size count).network (opening_with size count).registers v (λ w. contains-empty (edge v w)) (get_or-replicate (size + 1) v None None (let high : v ≤ size = within.1 in omega arith)));
      };
      few = few;
    })
