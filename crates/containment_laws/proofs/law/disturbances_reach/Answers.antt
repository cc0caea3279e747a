use Rattle.containment_laws.proofs.Proved as proved
use Rattle.containment_laws.proofs.law.disturbances_reach.Goals as goal

pub returns : goal.returns
returns c t table asks = proved.disturbances_reach t (proved.contains_from t table asks)
