use Rattle.containment.proofs.Prelude.{◌≡◌, find, drop, is_parted}
use Rattle.containment.proofs.reach.is_beside_parted.Given as goal

abbrev pub invariant-loop-w : goal.invariant-loop-w
invariant-loop-w l = find (is_parted l.net.state l.event) l.w-items ≡ find (is_parted l.net.state l.event) (drop l.w-index l.w-items)
