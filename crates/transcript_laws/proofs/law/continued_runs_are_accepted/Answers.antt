use Rattle.transcript_laws.proofs.AcceptedLaws.{alone_accepted, joined_accepted}
use Rattle.transcript_laws.proofs.law.continued_runs_are_accepted.Goals as goal

pub returns-clause-alone : goal.returns-clause-alone
returns-clause-alone c first from limit lines end is most reach = alone_accepted first from is limit lines end most reach

pub returns-clause-joined : goal.returns-clause-joined
returns-clause-joined c first from limit lines end is most reach = joined_accepted first from is limit lines end most reach
