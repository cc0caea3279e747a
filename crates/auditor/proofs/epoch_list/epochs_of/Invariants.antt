use Rattle.auditor.proofs.Prelude.{◌+◌, ◌≤◌, length, IsCursorAt, IsCompared}
use Rattle.auditor.proofs.EpochSteps.{IsListed}
use Rattle.auditor.proofs.epoch_list.epochs_of.Given as goal

abbrev pub invariant-loop-rest : goal.invariant-loop-rest
invariant-loop-rest l = record {
  at : IsCursorAt l.bytes l.replay l.rest;
  compared : IsCompared l.replay l.rest;
  listed : IsListed l.bytes l.replay.rules l.replay.size l.replay.audit l.rest l.list.items l.row l.rounds;
  few : l.row.epoch.moves ≤ l.replay.audit.counted.moves + 4294967295;
}

abbrev pub decreases-loop-rest : goal.decreases-loop-rest
decreases-loop-rest l = length l.rest
