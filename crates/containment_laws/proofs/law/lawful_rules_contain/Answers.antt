use Rattle.containment_laws.proofs.Proved as proved
use Rattle.containment_laws.proofs.law.lawful_rules_contain.Goals as goal

pub returns : goal.returns
returns g c =
    let laws = g.R.Rules.laws in proved.contains_faults g.R.Rules.table (proved.contains_from g.R.Rules.table laws.table laws.asks)
