use Rattle.locked_net.specs.Nets.{book_of, setting_of}
use Rattle.storm_runner.proofs.FreshRoamers.{roamed_afresh, all_noted}
use Rattle.storm_runner.proofs.beside.roam_new.Goals as goal

pub returns-clause-roamed : goal.returns-clause-roamed
returns-clause-roamed g c =
    roamed_afresh (setting_of g.R.Rules.table c.args.context.now.net.now) (book_of c.args.context.now.net.now) c.args.turns c.args.clerks.now c.roam.new.clerks c.roam.result c.requires.few c.requires.fresh c.roam.ensures.roamed c.roam.ensures.ends c.roam.ensures.none c.roam.ensures.fault c.roam.ensures.notes

pub returns-clause-notes : goal.returns-clause-notes
returns-clause-notes g c = all_noted (book_of c.args.context.now.net.now) c.args.clerks.now c.roam.new.clerks c.requires.fresh c.roam.ensures.notes
