use Rattle.locked_net.proofs.CountedLogs.{counted_kept}
use Rattle.locked_net.proofs.JournalPublication.{published_kept}
use Rattle.locked_net.proofs.published_journal.PublishedJournal.checkpoint.Goals as goal

pub invariant_of-self : goal.invariant_of-self
invariant_of-self g c =
    let t = g.R.Rules.table in
    let inside = c.self.inside in (
      published_kept t inside.journal c.checkpoint.new.self inside.board c.checkpoint.result c.self.invariant.0 c.checkpoint.ensures.log c.checkpoint.ensures.kept,
      counted_kept t inside.journal c.checkpoint.new.self inside.board inside.counted_from c.checkpoint.result c.self.invariant.1 c.checkpoint.ensures.log c.checkpoint.ensures.kept c.checkpoint.ensures.counting,
    )
