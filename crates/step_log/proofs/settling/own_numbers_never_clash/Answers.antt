use Rattle.step_log.proofs.SettlementFaults.{agrees_by_clerks}
use Rattle.step_log.proofs.settling.own_numbers_never_clash.Goals as goal

pub returns : goal.returns
returns c = agrees_by_clerks
