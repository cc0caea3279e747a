use Rattle.machine_laws.proofs.MaximalMatchings.{pairs_apart}
use Rattle.machine_laws.proofs.matching.mutual_pairs_apart.Goals as goal

pub returns-clause-apart : goal.returns-clause-apart
returns-clause-apart c = pairs_apart
