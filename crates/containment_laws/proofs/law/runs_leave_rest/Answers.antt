use Rattle.containment_laws.proofs.Proved as proved
use Rattle.containment_laws.proofs.law.runs_leave_rest.Goals as goal

pub returns : goal.returns
returns c t table asks = proved.runs_leave_rest t (proved.contains_from t table asks)
