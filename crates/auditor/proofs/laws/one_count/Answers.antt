use Rattle.auditor.proofs.TextEnds.{count_once}
use Rattle.auditor.proofs.laws.one_count.Goals as goal

pub returns : goal.returns
returns c = count_once
