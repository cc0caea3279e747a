use Rattle.auditor.proofs.TextEnds.{run_once}
use Rattle.auditor.proofs.laws.one_run.Goals as goal

pub returns : goal.returns
returns c = run_once
