use Rattle.transcript_laws.proofs.KeptLogs.{kept_accepted}
use Rattle.transcript_laws.proofs.law.kept_logs_are_accepted.Goals as goal

pub returns : goal.returns
returns c = kept_accepted
