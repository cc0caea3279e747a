use Rattle.snapshots.proofs.Prelude.{◌≡◌, unless_at}
use Rattle.snapshots.proofs.Passes.{passed}
use Rattle.snapshots.proofs.effect.drop_at.Given as goal

abbrev pub invariant-loop-pointer : goal.invariant-loop-pointer
invariant-loop-pointer l = l.row ≡ passed (unless_at l.v) l.initial.row l.pointer-index
