-- Partners, read off the registers.
use Rattle.net_totals.proofs.Prelude.{◌≡◌, ℕ, Bool, true, false, cond, None, Some, option_and_then, refl, sym, ap, ◌∙◌, ⊎_elim, true≢false, State, IsState, pointer, points, partner, option_cases, answered_by, none_is, partner_from, null_unmarried, unanswered_unmarried, points_true, points_from}

at_pointer : (s : State) (v w : ℕ) → IsState s → pointer s v ≡ Some w → (b : Bool) → points s.registers w v ≡ b → partner s v ≡ cond b (Some w) None
at_pointer s v w good at true back = partner_from s v w good at (points_true s w v back)
at_pointer s v w good at false back = none_is (partner s v) (unanswered_unmarried s v w at (λ e. true≢false (sym (points_from s w v e) ∙ back)))

-- a node's partner is its target, if that one points back
pub partner_answered : (s : State) (v : ℕ) → IsState s → partner s v ≡ answered_by s.registers v
partner_answered s v good =
    ⊎_elim
    (λ null. none_is (partner s v) (null_unmarried s v null) ∙ sym (ap (option_and_then (λ w. cond (points s.registers w v) (Some w) None)) null))
    (λ at. at_pointer s v at.0 good at.1 (points s.registers at.0 v) refl ∙ sym (ap (option_and_then (λ w. cond (points s.registers w v) (Some w) None)) at.1))
    (option_cases (pointer s v))
