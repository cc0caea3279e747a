use Rattle.auditor.proofs.DamageAbsence.{undamaged_accepted}
use Rattle.auditor.proofs.laws.undamaged_is_a_transcript.Goals as goal

pub returns : goal.returns
returns c = undamaged_accepted
