use Rattle.step_log.proofs.HeadlineProof.{leads_somewhere}
use Rattle.step_log.proofs.law.beginnings_lead_somewhere.Goals as goal

pub returns : goal.returns
returns c = leads_somewhere
