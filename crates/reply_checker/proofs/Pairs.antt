-- Facts of a node from its pointer.
use Rattle.reply_checker.proofs.Prelude.{◌≡◌, ℕ, Bool, true, false, cond, not, ◌&&◌, ◌||◌, nat_lt, None, Some, is_some, is_none, IsTrue, refl, sym, ap, ap₂, ◌∙◌, arith, and_right, ne_eqb, true≢false, Manne, linked, present, State, IsState, flag, holds_at, married, partner, pointer, points, pair_above, linked_apart, married_from, none_is, null_unmarried, partner_from, points_from, points_true, unanswered_unmarried, lower_end_pair, asks, closes}

-- it is the lower end of a pair if its target is above it and points back
pub lower_end : (s : State) (v w : ℕ) → IsState s → IsTrue (present s.network v) → pointer s v ≡ Some w → (b : Bool) → points s.registers w v ≡ b → is_some (lower_end_pair s v) ≡ (nat_lt v w && b)
lower_end s v w good here at true back =
    ap₂ (λ p o. is_some (cond p (pair_above v o) None)) here (partner_from s v w good at (points_true s w v back)) ∙ grind arith
lower_end s v w good here at false back =
    ap₂ (λ p o. is_some (cond p (pair_above v o) None)) here (none_is (partner s v) (unanswered_unmarried s v w at (λ e. true≢false (sym (points_from s w v e) ∙ back)))) ∙ grind arith

pub no_lower_end : (s : State) (v : ℕ) → pointer s v ≡ None → is_some (lower_end_pair s v) ≡ false
no_lower_end s v null =
    ap (λ o. is_some (cond (present s.network v) (pair_above v o) None)) (none_is (partner s v) (null_unmarried s v null)) ∙ grind arith

-- by Manne's rules a pointer closes an edge only if its target is unmarried
pub manne_closing : (s : State) (v w : ℕ) → IsState s → pointer s v ≡ Some w → closes Manne s v ≡ ((nat_lt v w && not (flag s w)) && not (married s w))
manne_closing s v w good at = go (points s.registers w v) refl
  where
    go : (back : Bool) → points s.registers w v ≡ back → closes Manne s v ≡ ((nat_lt v w && not (flag s w)) && not (married s w))
    go true back =
        let there = points_true s w v back in
        ap (λ m. not m && holds_at (λ w. nat_lt v w && not (flag s w) && not (married s w)) (pointer s v)) (married_from s v w good at there)
        ∙ sym (and_right (nat_lt v w && not (flag s w)) _ refl) ∙ sym (ap (λ m. (nat_lt v w && not (flag s w)) && not m) (married_from s w v good there at))
    go false back =
        ap₂ (λ m o. not m && holds_at (λ w. nat_lt v w && not (flag s w) && not (married s w)) o) (unanswered_unmarried s v w at (λ e. true≢false (sym (points_from s w v e) ∙ back))) at

-- a neighbour asks for a node if it points nowhere or there
pub neighbour_asks : (s : State) (v w : ℕ) → IsState s → IsTrue (linked s.network v w) → asks s v w ≡ (is_none (pointer s v) || points s.registers v w)
neighbour_asks s v w good link =
    ap₂ (λ e l. e || (l && (is_none (pointer s v) || points s.registers v w))) (ne_eqb v w (linked_apart s.network v w good.is_network link)) link
