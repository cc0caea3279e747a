use Rattle.snapshots.proofs.BoardSteps.{looks}
use Rattle.snapshots.proofs.reader.peek.Goals as goal

pub enter_as-requires : goal.enter_as-requires
enter_as-requires g c x = looks g.L.Law.holds _ _ x
