use Rattle.locked_net.proofs.CountedLogs.{counting_here}
use Rattle.locked_net.proofs.published_journal.PublishedJournal.count_rounds.Goals as goal

pub invariant_of-self-2 : goal.invariant_of-self-2
invariant_of-self-2 g c =
    counting_here g.R.Rules.table c.self.inside.journal c.count_rounds.new.self c.self.inside.board c.len-last.result c.self.invariant.0 c.len-last.ensures.number c.in_ok-count_rounds.ensures.ok
