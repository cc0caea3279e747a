use Rattle.step_log.proofs.SettlementFaults.{settled_not_refused}
use Rattle.step_log.proofs.settling.settling_is_exact.Goals as goal

pub returns : goal.returns
returns c = settled_not_refused
