-- By Hsu and Huang's rules the dense charge falls by two with every move, whatever the edges, and is at most
-- n² + 2n.
use Rattle.dense_laws.proofs.Prelude.{◌≡◌, ℕ, ◌+◌, ◌-◌, ◌*◌, ◌≤◌, not, List, length, IsTrue, refl, ap, subst, inl, inr, ⊎_elim, ◌⊎◌, arith, cases_Bool, Item, Moved, names, node_count, State, IsState, pointer, married, has_suitor, hsu_huang, IsStep, linked_apart, linked_present, pointer_linked, suitor_linked, no_suitor, suitor_some, count_agree, in_names, names_without_repeats, married_is, is_mover_in, IsDone, step_done, pointer_present, hsu_huang_inside, IsSolo, one_mover, solo_from, unmarried_nodes, dense_charge}
use Rattle.dense_laws.proofs.NodeKinds.{is_single, singles, stucks, idles}
use Rattle.dense_laws.proofs.Moves.{IsAmong, IsTrap, move_lowers, move_in_trap}
use Rattle.dense_laws.proofs.Starts.{high, low, not_below, most, trap_above}

pub among_from : (s : State) → IsState s → IsAmong (pointer s) (names s.network)
among_from s good = record {
  once = names_without_repeats s.network;
  ends = λ v w e. (in_names s.network v (pointer_present s v w good e), in_names s.network w (linked_present s.network w v good.is_network (suitor_linked s w v good e)));
  apart = λ v w e. linked_apart s.network v w good.is_network (pointer_linked s v w good e);
  suitors = λ y. ⊎_elim (λ yes. inl (suitor_some s y yes)) (λ no. inr (λ u. no_suitor s y u good no)) (cases_Bool (has_suitor s y));
}

-- the dense charge as one number, which arithmetic need not look into
pub charge_of : State → ℕ
charge_of s = dense_charge s

pub charge_is : (s : State) → charge_of s ≡ dense_charge s
unfolding charge_of
charge_is s = refl

-- it is the difference of the two sides
pub sides_are : (s : State) → IsState s → charge_of s + low (pointer s) (names s.network) ≡ high (pointer s) (names s.network)
unfolding charge_of
sides_are s good =
    let same = count_agree (λ v. not (married s v)) (is_single (pointer s)) (λ v. ap not (married_is s v good)) (names s.network) in
    by_count (unmarried_nodes s) (singles (pointer s) (names s.network)) (stucks (pointer s) (names s.network)) (idles (pointer s) (names s.network)) same (not_below (pointer s) (names s.network) (among_from s good))
  where
    by_count : (k' k c f : ℕ) → k' ≡ k → 2 * k ≤ k * k + 4 * c + 2 * f → (k' * k' + 4 * c + 2 * f - 2 * k') + 2 * k ≡ k * k + 4 * c + 2 * f
    by_count k' k c f same below = let square = ap (λ x. x * x) same in omega (arith, square, same, below)

-- what one step does: the charge is lower, and a trap stays, or the charge is lower by more
pub record IsFall (s s' : State) (moves : List Moved) : Type 0 where
  pub one : length moves ≡ 1
  pub is_state : IsState s'
  pub lowers : charge_of s' + 2 ≤ charge_of s
  pub in_trap : IsTrap (pointer s) → IsTrap (pointer s') ⊎ (charge_of s' + 6 ≤ charge_of s)

pub step_falls : (s : State) (items : List Item) (moves : List Moved) (s' : State) → IsState s → IsStep hsu_huang s items moves s' → IsFall s s' moves
step_falls s items moves s' good step = record {
  one = step.alone refl;
  is_state = done.is_state;
  lowers = omega (arith, sides_are s good, sides, move_lowers (pointer s) (pointer s') mover.0 (names s.network) (among_from s good) after solo);
  in_trap = λ trap. ⊎_elim (λ kept. inl kept) (λ falls. inr (omega (arith, sides_are s good, sides, falls))) (move_in_trap (pointer s) (pointer s') mover.0 (names s.network) (among_from s good) solo trap);
}
  where
    done : IsDone hsu_huang s s' moves
    done = step_done hsu_huang hsu_huang_inside s good items moves s' step

    mover : (x : ℕ) × ((v : ℕ) → IsTrue (is_mover_in moves v) → v ≡ x) × IsTrue (is_mover_in moves x)
    mover = one_mover moves (step.alone refl)

    solo : IsSolo (pointer s) (pointer s') mover.0
    solo = solo_from s s' moves mover.0 good done mover.1 mover.2

    after : IsAmong (pointer s') (names s.network)
    after = subst (λ net. IsAmong (pointer s') (names net)) done.network (among_from s' done.is_state)

    sides : charge_of s' + low (pointer s') (names s.network) ≡ high (pointer s') (names s.network)
    sides = subst (λ net. charge_of s' + low (pointer s') (names net) ≡ high (pointer s') (names net)) done.network (sides_are s' done.is_state)

-- the charge falls by two for the one move of a step
pub dense_falls : (s : State) (items : List Item) (moves : List Moved) (s' : State) → IsState s → IsStep hsu_huang s items moves s' → dense_charge s' + 2 * length moves ≤ dense_charge s
dense_falls s items moves s' good step =
    let fall = step_falls s items moves s' good step in omega (arith, fall.one, fall.lowers, charge_is s, charge_is s')

pub charge_bounded : (s : State) → IsState s → charge_of s ≤ node_count s.network * node_count s.network + 2 * node_count s.network
charge_bounded s good = omega (arith, sides_are s good, most (pointer s) (names s.network))

pub dense_bounded : (s : State) → IsState s → dense_charge s ≤ node_count s.network * node_count s.network + 2 * node_count s.network
dense_bounded s good = omega (arith, charge_is s, charge_bounded s good)

pub trap_charged : (s : State) → IsState s → IsTrap (pointer s) → 4 ≤ charge_of s
trap_charged s good trap = omega (arith, sides_are s good, trap_above (pointer s) (names s.network) (among_from s good) trap)
