use Rattle.containment_laws.proofs.Proved as proved
use Rattle.containment_laws.proofs.law.one_pair_is_lost.Goals as goal

pub returns : goal.returns
returns c t table asks = proved.one_pair_is_lost t (proved.contains_from t table asks)
