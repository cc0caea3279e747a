use Rattle.containment_laws.proofs.Proved as proved
use Rattle.containment_laws.proofs.law.steps_keep_pairs.Goals as goal

pub returns : goal.returns
returns c t table asks = proved.steps_keep_pairs t (proved.contains_from t table asks)
