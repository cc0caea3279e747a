use Rattle.transcript_laws.proofs.AcceptedLaws.{runs_accepted}
use Rattle.transcript_laws.proofs.law.runs_are_accepted.Goals as goal

pub returns : goal.returns
returns c = runs_accepted
