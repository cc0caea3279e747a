use Rattle.storm_runner.proofs.Prelude.{◌≡◌, length, arith, setting_of}
use Rattle.storm_runner.proofs.FreshRoamers.{told_beside}
use Rattle.storm_runner.proofs.beside.play_beside.Goals as goal

pub returns-clause-told : goal.returns-clause-told
returns-clause-told g c =
    let rows = c.split_at_mut-own in
    let told = c.play_and_roam-met in
    let config = c.args.context.now.config in
    let size : length rows.result.1.now ≡ config.roamers = omega arith in
    told_beside (setting_of g.R.Rules.table c.args.context.now.net.now) c.args.scripts.now config.roamers config.turns told.new.own rows.result.1.now told.new.roaming told.result.0 c.first_fault.result told.result.1 told.ensures.played told.ensures.roamed size c.first_fault.ensures
