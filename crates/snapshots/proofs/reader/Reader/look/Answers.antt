use Rattle.snapshots.proofs.BoardSteps.{goes_on_from, reader_looked}
use Rattle.snapshots.proofs.reader.Reader.look.Goals as goal

pub returns-clause-view : goal.returns-clause-view
returns-clause-view g c =
    let t = c.in_ok-look.ensures.1 in
    rw (← c.self.view_is, t.2) (goes_on_from g.L.Law.holds _ _ t.0 _ c.self.invariant.copy c.self.invariant.knows t.1 c.self.invariant.begins)

pub invariant_of-self-then-not-is_shown_at : goal.invariant_of-self-then-not-is_shown_at
invariant_of-self-then-not-is_shown_at g c =
    let t = c.in_ok-look.ensures.1 in
    reader_looked g.L.Law.holds _ _ t.0 _ _ _ c.self.invariant t.1
