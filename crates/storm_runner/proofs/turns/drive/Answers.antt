use Rattle.storm_runner.proofs.Prelude.{setting_of, pcg32_stream}
use Rattle.storm_runner.proofs.TurnAddition.{drives}
use Rattle.storm_runner.proofs.turns.drive.Goals as goal

pub returns-clause-plays : goal.returns-clause-plays
returns-clause-plays g c =
    drives (setting_of g.R.Rules.table c.args.net.now) c.args.turns (pcg32_stream c.daemon_of_seed-daemon.result) c.args.clerk.now c.take_turns.new.clerk c.take_turns.result c.daemon_of_seed-daemon.ensures c.take_turns.ensures.ends
