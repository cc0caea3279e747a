use Rattle.auditor.proofs.TextEnds.{damage_once}
use Rattle.auditor.proofs.laws.one_damage.Goals as goal

pub returns : goal.returns
returns c = damage_once
