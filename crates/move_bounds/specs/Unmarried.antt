-- Without an exception, `single_neighbours_but` counts all unmarried neighbours of a node.
use Rattle.std.proofs.Common.{◌≡◌, ℕ, Bool, true, false, not, ◌&&◌, count_by, None, refl}
use Rattle.rule_machine.specs.Network.{linked, names}
use Rattle.rule_machine.specs.State.{State, married}
use Rattle.silence_laws.specs.Costs.{single_neighbours, single_neighbours_but}

and_all : (b : Bool) → (b && true) ≡ b
and_all true = refl
and_all false = refl

pub without_exception : (s : State) (v : ℕ) → single_neighbours_but s v None ≡ single_neighbours s v
without_exception s v i = count_by (λ w. linked s.network v w && and_all (not (married s w)) i) (names s.network)
