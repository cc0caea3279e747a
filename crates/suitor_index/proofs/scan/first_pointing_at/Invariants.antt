use Rattle.suitor_index.proofs.Prelude.{◌≡◌, find, drop, points}
use Rattle.suitor_index.proofs.scan.first_pointing_at.Given as goal

abbrev pub invariant-loop-w : goal.invariant-loop-w
invariant-loop-w g l = find (λ w. points l.net.state.registers w l.v) (drop l.w-index l.nodes) ≡ find (λ w. points l.net.state.registers w l.v) l.nodes
