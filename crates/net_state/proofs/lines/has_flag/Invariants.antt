use Rattle.net_state.proofs.Prelude.{◌≡◌, false, take, list_any}
use Rattle.net_state.proofs.lines.has_flag.Given as goal

abbrev pub invariant-loop-place : goal.invariant-loop-place
invariant-loop-place l = list_any (λ p. p.flagged) (take l.place-index l.nodes) ≡ false
