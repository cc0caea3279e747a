use Rattle.std.proofs.Common.{subst, sym}
use Rattle.rule_machine.specs.Tables.{table_of}
use Rattle.rule_engine.specs.RoundsLeft.{LeavesIfCounted}
use Rattle.rudekpi_c.specs.declared.session.Machine.{Machine}
use Rattle.rudekpi_c.specs.Session.{stands_at, rules_at}
use Rattle.rudekpi_c.proofs.session.Session.rounds_left.Goals as goal

pub returns-in-Hh-clause-left : goal.returns-in-Hh-clause-left
returns-in-Hh-clause-left c = subst (λ (m : Machine). LeavesIfCounted (table_of (rules_at m)) (stands_at m).moment (stands_at m).counting c.rounds_left.result) (sym c.in-Hh.is) c.rounds_left.ensures.left

pub returns-in-Manne-clause-left : goal.returns-in-Manne-clause-left
returns-in-Manne-clause-left c = subst (λ (m : Machine). LeavesIfCounted (table_of (rules_at m)) (stands_at m).moment (stands_at m).counting c.rounds_left-in-Manne.result) (sym c.in-Manne.is) c.rounds_left-in-Manne.ensures.left
