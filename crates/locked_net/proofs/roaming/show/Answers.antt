use Rattle.locked_net.proofs.Turns.{nothing_shown}
use Rattle.locked_net.proofs.roaming.show.Goals as goal

pub returns-in_default-clause-other : goal.returns-in_default-clause-other
returns-in_default-clause-other c = nothing_shown c.args.other c.args.clerk.now.note c.in_default.not-Some
