-- The partner of a node.
use Rattle.std.proofs.Common.{◌≡◌, ◌∙◌, ℕ, true, false, None, Some, sym}
use Rattle.std.proofs.lemmas.Bool.{true≢false}
use Rattle.rule_machine.specs.State.{State, IsState, pointer, points, partner}
use Rattle.machine_laws.proofs.Pointers.{none_is, null_unmarried, unanswered_unmarried, partner_from, points_true, points_from}

pub points_nowhere : (s : State) (v : ℕ) → pointer s v ≡ None → partner s v ≡ None
points_nowhere s v null = none_is (partner s v) (null_unmarried s v null)

pub unanswered : (s : State) (v w : ℕ) → pointer s v ≡ Some w → points s.registers w v ≡ false → partner s v ≡ None
unanswered s v w at back = none_is (partner s v) (unanswered_unmarried s v w at (λ e. true≢false (sym (points_from s w v e) ∙ back)))

pub answered : (s : State) (v w : ℕ) → IsState s → pointer s v ≡ Some w → points s.registers w v ≡ true → partner s v ≡ Some w
answered s v w good at back = partner_from s v w good at (points_true s w v back)
