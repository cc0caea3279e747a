use Rattle.step_log.proofs.EpochRounds.{all_by_number}
use Rattle.step_log.proofs.law.epoch_rounds_by_number.Goals as goal

pub returns : goal.returns
returns c = all_by_number
