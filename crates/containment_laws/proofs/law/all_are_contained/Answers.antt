use Rattle.containment_laws.proofs.Proved as proved
use Rattle.containment_laws.proofs.law.all_are_contained.Goals as goal

pub returns : goal.returns
returns c t table asks = proved.all_are_contained t (proved.contains_from t table asks)
