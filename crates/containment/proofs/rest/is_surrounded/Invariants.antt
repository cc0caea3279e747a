use Rattle.containment.proofs.Prelude.{◌≡◌, not, find, drop, married}
use Rattle.containment.proofs.rest.is_surrounded.Given as goal

abbrev pub invariant-loop-w : goal.invariant-loop-w
invariant-loop-w l = find (λ x. not (married l.net.state x)) l.w-items ≡ find (λ x. not (married l.net.state x)) (drop l.w-index l.w-items)
