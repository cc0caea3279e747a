use Rattle.locked_net.specs.Nets.{setting_of}
use Rattle.storm_runner.proofs.SplitScripts.{halves_played}
use Rattle.storm_runner.proofs.split_work.+forks.Goals as goal

pub play_all-returns-clause-played : goal.play_all-returns-clause-played
play_all-returns-clause-played g t c =
    let parts = c.split_at.result in
    let told = c.play_halves-fault in
    halves_played (setting_of g.R.Rules.table c.args.context.now.net.now) c.args.scripts.now parts.0.now parts.1.now _ told.new.ours told.new.theirs told.result.0 told.result.1 c.or.result c.split_at.ensures.front c.split_at.ensures.back c.or.ensures told.ensures.left told.ensures.right
