use Rattle.locked_net.specs.Nets.{book_of, setting_of}
use Rattle.locked_net.proofs.Ends.{parts_ended, parts_kept}
use Rattle.locked_net.proofs.roaming.+forks.Goals as goal

pub roam_all-returns-clause-ends : goal.roam_all-returns-clause-ends
roam_all-returns-clause-ends g t c =
    let rows = c.split_at_mut-ours in
    let told = c.roam_halves-fault in
    parts_ended (setting_of g.R.Rules.table c.args.config.now.net.now) c.args.config.now.turns c.args.clerks.now rows.result.0.now rows.result.1.now told.new.ours told.new.theirs told.result.0 told.result.1 c.or.result rows.ensures.value c.or.ensures told.ensures.ours told.ensures.theirs

pub roam_all-returns-clause-notes : goal.roam_all-returns-clause-notes
roam_all-returns-clause-notes g t c =
    let rows = c.split_at_mut-ours in
    let told = c.roam_halves-fault in
    parts_kept (book_of c.args.config.now.net.now) c.args.clerks.now rows.result.0.now rows.result.1.now told.new.ours told.new.theirs rows.ensures.value told.ensures.our_notes told.ensures.their_notes
