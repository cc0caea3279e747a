use Rattle.locked_net.proofs.Prelude.{ap, ◌∙◌, reply_of, Receipt, PublishedJournalView}
use Rattle.locked_net.proofs.CountedLogs.{counted_recorded}
use Rattle.locked_net.proofs.published_journal.PublishedJournal.record.Goals as goal

pub invariant_of-self-2 : goal.invariant_of-self-2
invariant_of-self-2 g c =
    let inside = c.self.inside in
    let done = c.finish.ensures in (
      done.published,
      counted_recorded g.R.Rules.table g.R.Rules.laws.table inside.journal c.prepare.new.journal c.finish.new.journal inside.board c.finish.new.board c.in_ok-prepared.prepared inside.counted_from c.finish.result c.self.invariant.0 done.published
          c.self.invariant.1 c.prepare.ensures.kept c.prepare.ensures.counting c.in_ok-prepared.ensures.ready.next done.log done.kept done.name done.counting done.kept_counting,
    )

pub returns-clause-reply : goal.returns-clause-reply
returns-clause-reply g c =
    c.in_ok-finish.ensures.reply
    ∙ ap (λ (r : Receipt). r.reply) c.in_ok-prepared.ensures.receipt
    ∙ ap (λ (v : PublishedJournalView). reply_of g.R.Rules.table v.log.state v.log.spent c.args.event) c.self.view_is
