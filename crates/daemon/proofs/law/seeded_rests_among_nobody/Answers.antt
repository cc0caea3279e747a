use Rattle.daemon.proofs.EmptyDraws.{rests}
use Rattle.daemon.proofs.law.seeded_rests_among_nobody.Goals as goal

pub returns : goal.returns
returns c = rests
