use Rattle.locked_net.proofs.Prelude.{◌∙◌, take, setting_of}
use Rattle.locked_net.proofs.RoamReceipts.{all_taken, may_stop, row_ended, row_roamed, told_back}
use Rattle.locked_net.proofs.roaming.roam.Goals as goal

pub returns-in-None-clause-roamed : goal.returns-in-None-clause-roamed
returns-in-None-clause-roamed g c = row_roamed _ _ _ _ _ c.roam_row.ensures.row

pub returns-in-None-clause-turns : goal.returns-in-None-clause-turns
returns-in-None-clause-turns g c =
    all_taken (setting_of g.R.Rules.table c.args.net.now) c.args.turns (take 64 c.args.clerks.now) (take 64 c.roam_row.new.clerks) c.roam_row.result c.in-None.is c.roam_row.ensures.row.ends

pub returns-in-None-clause-ends : goal.returns-in-None-clause-ends
returns-in-None-clause-ends g c = row_ended _ _ _ _ _ _ c.roam_row.ensures.row c.in-None.is

pub returns-in-Some-clause-ends : goal.returns-in-Some-clause-ends
returns-in-Some-clause-ends g c =
    row_ended _ _ _ _ _ _ c.roam_row.ensures.row (c.in-Some.is ∙ told_back c.in-Some.fault c.from.result c.from.ensures)

pub returns-in-Some-clause-roamed : goal.returns-in-Some-clause-roamed
returns-in-Some-clause-roamed g c = row_roamed _ _ _ _ _ c.roam_row.ensures.row

pub returns-in-Some-clause-fault : goal.returns-in-Some-clause-fault
returns-in-Some-clause-fault g c =
    may_stop (setting_of g.R.Rules.table c.args.net.now) c.args.turns c.args.clerks.now c.roam_row.new.clerks c.roam_row.result c.in-Some.fault c.from.result c.roam_row.ensures.row c.in-Some.is c.from.ensures
