use Rattle.storm_runner.proofs.Prelude.{setting_of, front_of, scene_of}
use Rattle.storm_runner.proofs.ClerkNotes.{told_one}
use Rattle.storm_runner.proofs.play.tell.Goals as goal

pub returns-clause-plays : goal.returns-clause-plays
returns-clause-plays g c =
    let is = c.in_ok-call.ensures in
    told_one (scene_of (setting_of g.R.Rules.table c.args.context.now.net.now) c.recall.new.clerk) (front_of c.args.clerk.now.receipts) c.args.event.now c.args.clerk.now c.recall.new.clerk c.in_ok-call.field-0
    (rw (← c.recall.ensures.receipts) at is.receipt) (rw (← c.recall.ensures.receipts) at is.above)
