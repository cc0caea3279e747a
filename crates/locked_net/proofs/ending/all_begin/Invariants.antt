use Rattle.locked_net.proofs.Prelude.{take, All, noted}
use mathlib.Core.List.{IsPrefix}
use Rattle.locked_net.proofs.ending.all_begin.Given as goal

abbrev pub invariant-loop-clerk : goal.invariant-loop-clerk
invariant-loop-clerk l = All (λ clerk. IsPrefix (noted clerk.note) l.last.log) (take l.clerk-index l.clerks)
