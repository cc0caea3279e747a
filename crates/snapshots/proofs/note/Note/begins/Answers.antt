use Rattle.snapshots.proofs.Fronts.{published_grows}
use Rattle.snapshots.proofs.note.Note.begins.Goals as goal

pub returns-clause-yes : goal.returns-clause-yes
returns-clause-yes c few = rw (← c.self.view_is, ← c.other.view_is) (published_grows _ _ (c.begins.ensures.yes few))

pub returns-clause-no : goal.returns-clause-no
returns-clause-no c more = rw (← c.self.view_is, ← c.other.view_is) (published_grows _ _ (c.begins.ensures.no more))
