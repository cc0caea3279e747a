use Rattle.dense_laws.proofs.CompleteNetworks.{bound_is_reached}
use Rattle.dense_laws.proofs.law.bound_is_reached.Goals as goal

pub returns : goal.returns
returns c = bound_is_reached
