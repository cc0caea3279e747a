use Rattle.round_laws.proofs.Reached.{hsu_huang_reached}
use Rattle.round_laws.proofs.law.hsu_huang_rounds_are_reached.Goals as goal

pub returns : goal.returns
returns c = hsu_huang_reached
