use Rattle.auditor.proofs.Prelude.{length, IsAskedWithin, IsCursorAt, IsCompared}
use Rattle.auditor.proofs.replayed_run.state_after.Given as goal

abbrev pub invariant-loop-replay : goal.invariant-loop-replay
invariant-loop-replay l = record {
  at : IsCursorAt l.bytes l.replay l.rest;
  compared : IsCompared l.replay l.rest;
  within : IsAskedWithin l.last l.replay.audit.number;
}

abbrev pub decreases-loop-replay : goal.decreases-loop-replay
decreases-loop-replay l = length l.rest
