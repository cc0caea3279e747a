use Rattle.storm_runner.proofs.Prelude.{setting_of, pcg32_stream}
use Rattle.storm_runner.proofs.TurnAddition.{scrambles}
use Rattle.storm_runner.proofs.turns.scramble.Goals as goal

pub returns-clause-plays : goal.returns-clause-plays
returns-clause-plays g c =
    scrambles (setting_of g.R.Rules.table c.args.net.now) c.args.turns (pcg32_stream c.injector_of_seed-injector.result) c.args.clerk.now c.take_turns.new.clerk c.take_turns.result c.injector_of_seed-injector.ensures c.take_turns.ensures.ends
