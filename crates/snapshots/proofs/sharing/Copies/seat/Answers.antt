use Rattle.snapshots.proofs.BoardSteps.{admits, forks, merges}
use Rattle.snapshots.proofs.sharing.Copies.seat.Goals as goal

pub reader-requires : goal.reader-requires
reader-requires g c = admits g.L.Law.holds

pub tell-requires : goal.tell-requires
tell-requires g c = forks g.L.Law.holds _ _

pub learn-requires-clause-rule : goal.learn-requires-clause-rule
learn-requires-clause-rule g c = merges g.L.Law.holds _ _ _ _
