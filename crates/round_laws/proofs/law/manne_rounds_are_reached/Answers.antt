use Rattle.round_laws.proofs.Reached.{manne_reached}
use Rattle.round_laws.proofs.law.manne_rounds_are_reached.Goals as goal

pub returns : goal.returns
returns c = manne_reached
