use Rattle.locked_net.specs.Nets.{book_of, setting_of}
use Rattle.locked_net.proofs.Ends.{parts_kept, notes_stay}
use Rattle.locked_net.proofs.RoamReceipts.{row_ends}
use Rattle.locked_net.proofs.roaming.roam_row.Goals as goal

pub returns-clause-row : goal.returns-clause-row
returns-clause-row g c =
    let rows = c.split_at_mut-ours in
    row_ends (setting_of g.R.Rules.table c.args.config.now.net.now) c.args.config.now.turns c.min-workers.result c.args.clerks.now rows.result.0.now c.roam_all.new.clerks rows.result.1.now c.roam_all.result rows.ensures.value rows.ensures.front_len c.min-workers.ensures c.roam_all.auto.clerks c.roam_all.ensures.ends

pub returns-clause-notes : goal.returns-clause-notes
returns-clause-notes g c =
    let rows = c.split_at_mut-ours in
    parts_kept (book_of c.args.config.now.net.now) c.args.clerks.now rows.result.0.now rows.result.1.now c.roam_all.new.clerks rows.result.1.now rows.ensures.value c.roam_all.ensures.notes (notes_stay (book_of c.args.config.now.net.now) rows.result.1.now)
