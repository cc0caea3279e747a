use Rattle.snapshots.proofs.Machine.{is_run_begins}
use Rattle.snapshots.proofs.laws.beginnings_are_runs.Goals as goal

pub returns : goal.returns
returns c = is_run_begins
