use Rattle.dense_laws.proofs.Falls.{dense_falls, dense_bounded}
use Rattle.dense_laws.proofs.law.dense_charge_falls.Goals as goal

pub returns-clause-falls : goal.returns-clause-falls
returns-clause-falls c s items moves after good step = dense_falls s items moves after good step

pub returns-clause-bounded : goal.returns-clause-bounded
returns-clause-bounded c s good = dense_bounded s good
