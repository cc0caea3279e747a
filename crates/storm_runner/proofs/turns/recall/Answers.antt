use Rattle.locked_net.proofs.Turns.{nothing_shown}
use Rattle.storm_runner.proofs.turns.recall.Goals as goal

pub returns-in_default-clause-before : goal.returns-in_default-clause-before
returns-in_default-clause-before c = nothing_shown c.args.before c.args.clerk.now.note c.in_default.not-Some
