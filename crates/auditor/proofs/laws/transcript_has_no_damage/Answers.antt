use Rattle.auditor.proofs.TextEnds.{accepted_no_damage}
use Rattle.auditor.proofs.laws.transcript_has_no_damage.Goals as goal

pub returns : goal.returns
returns c = accepted_no_damage
