use Rattle.rule_engine.proofs.Prelude.{sym, subst, List, Bool}
use Rattle.enabled_set.proofs.NotedNames.{inserted}
use Rattle.enabled_set.specs.RemovedNames.{KeepsNotes}
use Rattle.rule_engine.proofs.look.look_at.Goals as goal

pub returns-then-is_some-clause-noted : goal.returns-then-is_some-clause-noted
returns-then-is_some-clause-noted g c =
    subst (λ (bits : List Bool). KeepsNotes c.args.enabled.now c.args.removals.now bits c.args.removals.now) (sym c.insert.ensures)
    (inserted c.args.enabled.now c.args.removals.now c.args.v)
