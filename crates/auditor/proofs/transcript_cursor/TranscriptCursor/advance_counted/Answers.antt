use Rattle.auditor.proofs.EpochRounds.{keeps_count}
use Rattle.auditor.proofs.transcript_cursor.TranscriptCursor.advance_counted.Goals as goal

pub returns-in-Ok-clause-cost : goal.returns-in-Ok-clause-cost
returns-in-Ok-clause-cost c = c.cost_ahead-cost.ensures c.args.rest.now c.in_ok-ahead.ensures

pub returns-in-Ok-clause-counts : goal.returns-in-Ok-clause-counts
returns-in-Ok-clause-counts c same =
    keeps_count c.args.self.now c.advance_whole.new.self c.args.rest.now c.in-Ok.behind.now c.in_ok-ahead.ahead c.args.rounds.now c.prepare.new.rounds c.follow.new.rounds c.in_ok-ahead.ensures c.prepare.ensures.rounds c.follow.ensures.few c.prepare.ensures.ready c.follow.ensures.counts
