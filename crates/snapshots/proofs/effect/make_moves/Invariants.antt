use Rattle.snapshots.proofs.Prelude.{◌≡◌, fold, drop, moved}
use Rattle.snapshots.proofs.effect.make_moves.Given as goal

-- the moves that are left lead to the end of all of them
abbrev pub invariant-loop-m : goal.invariant-loop-m
invariant-loop-m l = fold moved l.row (drop l.m-index l.moves) ≡ fold moved l.fn.row l.moves
