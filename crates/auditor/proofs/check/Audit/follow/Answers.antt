use Rattle.auditor.proofs.check.Audit.follow.Goals as goal

pub returns-in-Some-clause-counts : goal.returns-in-Some-clause-counts
returns-in-Some-clause-counts c = rw (← c.self.view_is, c.in-Some.is) (λ start log s. rw c.reply.ensures.value at (c.follow.ensures.counts start log s c.in-Some.entry.0))
