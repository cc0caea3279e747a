-- The nodes above a name are in pairs of such nodes: so they stay if a node below moves, and if the name and the
-- one before it become a pair.
use Rattle.dense_laws.proofs.Prelude.{◌≡◌, ◌≢◌, ℕ, ◌+◌, ◌<◌, ◌≤◌, Option, None, Some, sym, ap, ◌∙◌, ⊎_elim, arith, cases_eq, cases_lt, none-some, same_Some, State, IsState, pointer, present_range, pointer_linked, linked_present}

-- v and another point at each other
abbrev pub IsPaired : (ℕ → Option ℕ) → ℕ → Type 0
IsPaired p v = (w : ℕ) × (p v ≡ Some w) × (p w ≡ Some v)

pub null_alone : (p : ℕ → Option ℕ) (v : ℕ) → p v ≡ None → IsPaired p v → ⊥
null_alone p v null pair = none-some pair.0 (sym null ∙ pair.1)

pub unanswered_alone : (p : ℕ → Option ℕ) (v w : ℕ) → p v ≡ Some w → p w ≢ Some v → IsPaired p v → ⊥
unanswered_alone p v w at apart pair = apart (ap p (same_Some w pair.0 (sym at ∙ pair.1)) ∙ pair.2)

-- who points at another is 1 at least
pub points_low : (s : State) (v w : ℕ) → IsState s → pointer s v ≡ Some w → 1 ≤ v
points_low s v w good at = (present_range s.network v (linked_present s.network v w good.is_network (pointer_linked s v w good at))).0

-- who is above m points at none but such nodes, and those up to n are in pairs
pub record AreHigh (n m : ℕ) (p : ℕ → Option ℕ) : Type 0 where
  pub above : (v u : ℕ) → m < v → p v ≡ Some u → m < u
  pub wed : (v : ℕ) → m < v → v ≤ n → IsPaired p v

-- the pointers, or flags, of all nodes but v are the same
abbrev pub OthersKeep : {X : Type 0} → (ℕ → X) → (ℕ → X) → ℕ → Type 0
OthersKeep p p' v = (u : ℕ) → (u ≡ v → ⊥) → p' u ≡ p u

-- a move of a node up to m leaves them so
pub high_still : (n m v : ℕ) (p p' : ℕ → Option ℕ) → v ≤ m → OthersKeep p p' v → AreHigh n m p → AreHigh n m p'
high_still n m v p p' low others it = record {
  above = λ u w up at. it.above u w up (sym (others u (λ e. absurd (omega (arith, e, up, low)))) ∙ at);
  wed = λ u up most. by_pair u up (it.wed u up most);
}
  where
    by_pair : (u : ℕ) → m < u → IsPaired p u → IsPaired p' u
    by_pair u up (w, at, back) =
        let high = it.above u w up at in
        (w, others u (λ e. absurd (omega (arith, e, up, low))) ∙ at, others w (λ e. absurd (omega (arith, e, high, low))) ∙ back)

-- and so does what changes no pointer
pub high_same : (n m : ℕ) (p p' : ℕ → Option ℕ) → ((u : ℕ) → p' u ≡ p u) → AreHigh n m p → AreHigh n m p'
high_same n m p p' same it = record {
  above = λ u w up at. it.above u w up (sym (same u) ∙ at);
  wed = λ u up most. let pair = it.wed u up most in (pair.0, same u ∙ pair.1, same pair.0 ∙ pair.2);
}

-- k + 2 takes k + 1: these two are the lowest pair
pub high_with_pair : (n k : ℕ) (p p' : ℕ → Option ℕ) → OthersKeep p p' (k + 2) → p' (k + 2) ≡ Some (k + 1) → p (k + 1) ≡ Some (k + 2) → AreHigh n (k + 2) p → AreHigh n k p'
high_with_pair n k p p' others here hopes it = record {
  above = λ v u up at. above v u up at;
  wed = λ v up most. wed v up most;
}
  where
    lower : p' (k + 1) ≡ Some (k + 2)
    lower = others (k + 1) (λ e. absurd (omega (arith, e))) ∙ hopes

    above : (v u : ℕ) → k < v → p' v ≡ Some u → k < u
    above v u up at = grind (arith, others v, it.above v u, cases_eq v (k + 2), cases_eq v (k + 1))

    wed : (v : ℕ) → k < v → v ≤ n → IsPaired p' v
    wed v up most =
        ⊎_elim
        (λ same. (k + 1, ap p' same ∙ here, lower ∙ ap Some (sym same)))
        (λ apart. ⊎_elim
        (λ (inner : v < k + 2). let is : v ≡ k + 1 = omega (arith, inner, up) in (k + 2, ap p' is ∙ lower, here ∙ ap Some (sym is)))
        (λ (outer : k + 2 ≤ v).
        let pair = it.wed v (omega (arith, outer, apart)) most in
        let far = it.above v pair.0 (omega (arith, outer, apart)) pair.1 in
        (pair.0, others v apart ∙ pair.1, others pair.0 (λ e. absurd (omega (arith, e, far))) ∙ pair.2))
        (cases_lt v (k + 2)))
        (cases_eq v (k + 2))
