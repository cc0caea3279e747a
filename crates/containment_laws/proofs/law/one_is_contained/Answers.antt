use Rattle.containment_laws.proofs.Proved as proved
use Rattle.containment_laws.proofs.law.one_is_contained.Goals as goal

pub returns : goal.returns
returns c t table asks = proved.one_is_contained t (proved.contains_from t table asks)
