use Rattle.containment_laws.proofs.Partings.{one_pair_lost}
use Rattle.containment_laws.proofs.law.disturbances_break_one.Goals as goal

pub returns : goal.returns
returns c t table asks = one_pair_lost t table
