use Rattle.machine_laws.proofs.Bases as bases
use Rattle.machine_laws.proofs.matching.base_tells.Goals as goal

pub returns : goal.returns
returns c = bases.base_tells
