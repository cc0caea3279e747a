use Rattle.snapshots.proofs.Fronts.{published_grows}
use Rattle.snapshots.proofs.reader.Reader.learn.Goals as goal

pub returns-clause-learnt : goal.returns-clause-learnt
returns-clause-learnt g c = rw (← c.self.view_is, ← c.note.view_is) (published_grows _ _ c.longer.ensures.this, published_grows _ _ c.longer.ensures.that)
