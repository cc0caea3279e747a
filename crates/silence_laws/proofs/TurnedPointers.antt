-- Changing the pointer of a paired node in a stable network opens the edges of the two nodes to unmarried
-- neighbours, and their own edge.
use Rattle.silence_laws.proofs.Prelude.{◌≡◌, ℕ, ◌+◌, ◌*◌, ◌≤◌, Bool, true, false, cond, not, ◌&&◌, List, [], ◌∷◌, Option, None, Some, nat_eq, IsTrue, refl, ap, ◌∙◌, subst, ⊎_elim, arith, ◌||◌, count_by, sym, inl, is_some, is_none, or_left, cases_eq, one_node, same_network, WaitsOnly, IsWritten, wed_stays, written_at, one_between, hsu_huang_grows, IsSeen, seen, count_or, IsIn, none_count, edges_contain, an_end_paired, hsu_huang_stable_is_zero, married_is, degree, linked_present, linked_apart, married_from, pointer_linked, awaits, is_courted, hsu_huang_closed, hsu_huang_charge, after_point, is_end, linked, names, edge_list, IsStable, State, IsState, has_suitor, is_at, pointer, married, is_single_but, single_neighbours, single_neighbours_but}
use Rattle.silence_laws.proofs.OpenedEdges.{edges_few, is_edge_to}
use Rattle.silence_laws.proofs.CostComparison.{others_few}
use Rattle.silence_laws.proofs.UnreachedNodes.{answer_at}

-- at most `most` pass if the test holds, else none
count_if : {X : Type 0} (b : Bool) (p : X → Bool) (xs : List X) (most : ℕ) → count_by p xs ≤ most → count_by (λ x. b && p x) xs ≤ cond b most 0
count_if true p xs most few = few
count_if false p xs most few = omega (arith, none_count (λ x. false) xs (λ x there. refl))

-- what an untouched edge implies
untouched : (v u : ℕ) (f g : ℕ → Bool) (b : Bool) (x y : ℕ) → (is_edge_to f v (x, y) || (is_edge_to g u (x, y) || (b && (is_end v (x, y) && is_end u (x, y))))) ≡ false → (x ≡ v → f y ≡ false) × (x ≡ u → g y ≡ false) × (x ≡ v → y ≡ u → b ≡ false) × (x ≡ u → y ≡ v → b ≡ false)
untouched v u f g b x y h = grind arith

both_ways_touched : (v u : ℕ) (f g : ℕ → Bool) (b : Bool) (x y : ℕ) → (is_edge_to f v (x, y) || (is_edge_to g u (x, y) || (b && (is_end v (x, y) && is_end u (x, y))))) ≡ false → (is_edge_to f v (y, x) || (is_edge_to g u (y, x) || (b && (is_end v (y, x) && is_end u (y, x))))) ≡ false
both_ways_touched v u f g b x y h = grind arith

-- in pointers alone; m is married, c has a suitor
module _ (p p' : ℕ → Option ℕ) (m m' c c' : ℕ → Bool) (v u : ℕ) (target : Option ℕ) (old : IsSeen p m c) (new : IsSeen p' m' c') (it : IsWritten p p' v target) (at : p v ≡ Some u) (back : p u ≡ Some v) (answered : (x w : ℕ) → p x ≡ Some w → p w ≡ Some x) where
  turned_waits : WaitsOnly p p' (λ x. (is_some target && nat_eq v x) || nat_eq u x)
  turned_waits x w there alone = grind (arith, it.here, it.others, answered x, cases_eq)

  -- another pair stays
  turned_stays : (x : ℕ) → m x ≡ true → (x ≡ v → ⊥) → (x ≡ u → ⊥) → m' x ≡ true
  turned_stays x wed not_v not_u = wed_stays p p' m m' c c' old new x (λ w to fro. (it.others x not_v ∙ to, kept w to fro)) wed
    where
      kept : (w : ℕ) → p x ≡ Some w → p w ≡ Some x → p' w ≡ Some x
      kept w to fro = grind (arith, it.others w, cases_eq)

  wed_some : (y w : ℕ) → p y ≡ Some w → m y ≡ true
  wed_some y w there = old.weds y w there (answered y w there)

  -- an untouched edge at a married node is closed
  turned_side : (x y : ℕ) → (x ≡ y → ⊥) → (u ≡ v → ⊥) → m x ≡ true → (x ≡ v → (not (m y) && not (is_at target y)) ≡ false) → (x ≡ u → not (m y) ≡ false) → (x ≡ v → y ≡ u → is_some target ≡ false) → (x ≡ u → y ≡ v → is_some target ≡ false) → (m' x || m' y || (is_at (p' x) y && is_none (p' y)) || (is_at (p' y) x && is_none (p' x))) ≡ true
  turned_side x y loop apart wed of_v of_u of_both of_back = grind (arith, it.here, it.others x, it.others y, turned_stays x wed, turned_stays y, wed_some y, cases_eq)

module _ (s : State) (v u : ℕ) (target : Option ℕ) (good : IsState s) (stable : IsStable false s) (at : pointer s v ≡ Some u) (back : pointer s u ≡ Some v) (turned : target ≡ Some u → ⊥) (near : (w : ℕ) → target ≡ Some w → IsTrue (linked s.network v w)) (good' : IsState (after_point s v target)) where
  abbrev pub s' : State
  s' = after_point s v target

  near_u : IsTrue (linked s.network v u)
  near_u = pointer_linked s v u good at

  it : IsWritten (pointer s) (pointer s') v target
  it = written_at s v target good (linked_present s.network v u good.is_network near_u)

  abbrev far : ℕ → Bool
  far x = is_single_but s target x

  abbrev single : ℕ → Bool
  single x = not (married s x)

  -- the edge of the two themselves, which stays closed if v points nowhere now: its partner awaits it
  abbrev pub own : ℕ × ℕ → Bool
  own e = is_some target && (is_end v e && is_end u e)

  abbrev touched : ℕ × ℕ → Bool
  touched e = is_edge_to far v e || (is_edge_to single u e || own e)

  abbrev pub marked : ℕ → Bool
  marked x = (is_some target && nat_eq v x) || nat_eq u x

  pub waits : WaitsOnly (pointer s) (pointer s') marked
  waits = turned_waits (pointer s) (pointer s') (married s) (married s') (has_suitor s) (has_suitor s') v u target (seen s good) (seen s' good') it at back (answer_at false s stable)

  -- an edge that is not touched is closed: one end is in a pair
  closed : (x y : ℕ) → IsIn (x, y) (edge_list s'.network) → touched (x, y) ≡ false → hsu_huang_closed s' (x, y) ≡ true
  closed x y there clear =
      let up = good.is_network.low_first x y (edges_contain s.network (x, y) there) in
      let side = λ (a b : ℕ) (loop : a ≡ b → ⊥) (wed : married s a ≡ true) (off : touched (a, b) ≡ false). let parts = untouched v u far single (is_some target) a b off in turned_side (pointer s) (pointer s') (married s) (married s') (has_suitor s) (has_suitor s') v u target (seen s good) (seen s' good') it at back (answer_at false s stable) a b loop (λ same. linked_apart s.network v u good.is_network near_u (sym same)) wed parts.0 parts.1 parts.2 parts.3 in
      an_end_paired false s good stable (x, y) there (hsu_huang_closed s' (x, y) ≡ true)
      (λ h. or_left _ (is_courted s' x && is_courted s' y) (side x y (λ same. omega (arith, same, up)) (married_is s x good ∙ h) clear))
      (λ h. or_left _ (is_courted s' x && is_courted s' y) (turn (married s' y) (married s' x) (awaits s' y x) (awaits s' x y) (side y x (λ same. omega (arith, same, up)) (married_is s y good ∙ h) (both_ways_touched v u far single (is_some target) x y clear))))
    where
      turn : (m n a b : Bool) → (m || n || a || b) ≡ true → (n || m || b || a) ≡ true
      turn m n a b h = grind arith

  -- the edge of the two is one, and none is touched if v points nowhere now
  pub own_few : count_by own (edge_list s'.network) ≤ cond (is_some target) 1 0
  own_few = count_if (is_some target) (λ e. is_end v e && is_end u e) (edge_list s.network) 1 (one_between s.network good.is_network v u (linked_apart s.network v u good.is_network near_u))

  pub marked_few : count_by marked (names s'.network) ≤ cond (is_some target) 1 0 + 1
  marked_few =
      let here = count_if (is_some target) (nat_eq v) (names s.network) 1 (one_node s.network v) in
      omega (arith, count_or (λ x. is_some target && nat_eq v x) (nat_eq u) (names s.network), here, one_node s.network u)

  pub turned_few : hsu_huang_charge s' ≤ 2 * (single_neighbours_but s v target + single_neighbours s u) + 3 * cond (is_some target) 1 0 + 1
  turned_few =
      let es = edge_list s.network in
      let grows = hsu_huang_grows s s' touched marked (λ x y there clear. (there, λ was. closed x y there clear)) waits (λ x there. inl there) in
      let both = count_or (is_edge_to far v) (λ e. is_edge_to single u e || own e) es in
      let rest = count_or (is_edge_to single u) own es in
      omega (arith, grows, hsu_huang_stable_is_zero s good stable, both, rest, edges_few s s' good (same_network s.network) far v, edges_few s s' good (same_network s.network) single u, own_few, marked_few)

  -- v has a neighbour, and a second one if that is its new target; neither counts
  pub far_few : count_by (λ x. linked s.network v x && far x) (names s.network) + 1 + cond (is_some target) 1 0 ≤ degree s.network v
  far_few = by target refl
    where
      wed : far u ≡ false
      wed = ap (λ b. not b && not (is_at target u)) (married_from s u v good back at)

      aimed : (m : Bool) (o : Option ℕ) (w : ℕ) → o ≡ Some w → (m && not (is_at o w)) ≡ false
      aimed m o w e = grind arith

      at_u : (x : ℕ) → u ≡ x → IsTrue (linked s.network v x) × (far x ≡ false)
      at_u x same = subst (λ y. IsTrue (linked s.network v y) × (far y ≡ false)) same (near_u, wed)

      at_target : (w x : ℕ) → target ≡ Some w → w ≡ x → IsTrue (linked s.network v x) × (far x ≡ false)
      at_target w x e same = subst (λ y. IsTrue (linked s.network v y) × (far y ≡ false)) same (near w e, aimed (not (married s w)) target w e)

      by : (o : Option ℕ) → target ≡ o → count_by (λ x. linked s.network v x && far x) (names s.network) + 1 + cond (is_some o) 1 0 ≤ degree s.network v
      by None e = omega (arith, others_few s good v far (u ∷ []) ((λ none. none), tt) (λ x. ⊎_elim (at_u x) (λ none. absurd none)))
      by (Some w) e =
          let apart : IsIn u (w ∷ []) → ⊥ = ⊎_elim (λ same. turned (e ∙ ap Some same)) (λ none. none) in
          omega (arith, others_few s good v far (u ∷ w ∷ []) (apart, ((λ none. none), tt)) (λ x. ⊎_elim (at_u x) (⊎_elim (at_target w x e) (λ none. absurd none))))
