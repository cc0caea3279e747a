-- What holds of a network's state and of its spent moves holds of the moment that they are.
use Rattle.std.proofs.Common.{◌≡◌, ℕ, subst}
use Rattle.rule_machine.specs.Run.{Moment}
use Rattle.rule_machine.specs.State.{State}

pub at_moment : (P : Moment → Type 0) {s u : State} {n k : ℕ} → s ≡ u → n ≡ k → P (record { state = s; spent = n }) → P (record { state = u; spent = k })
at_moment P e f holds = subst P (λ i. record { state = e i; spent = f i }) holds
