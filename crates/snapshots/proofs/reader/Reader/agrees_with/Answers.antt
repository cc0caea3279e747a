use Rattle.snapshots.proofs.reader.Reader.agrees_with.Goals as goal

pub returns-clause-views : goal.returns-clause-views
returns-clause-views g c = rw (← c.self.view_is, ← c.other.view_is) c.meets.ensures.shown
