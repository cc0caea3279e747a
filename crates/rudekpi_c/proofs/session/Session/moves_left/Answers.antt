use Rattle.std.proofs.Common.{◌≡◌, ℕ, sym, subst}
use Rattle.rule_machine.specs.Tables.{table_of}
use Rattle.move_bounds.specs.MovesLeft.{moves_left}
use Rattle.rudekpi_c.specs.declared.session.Machine.{Machine}
use Rattle.rudekpi_c.specs.CostCalls.{most_of}
use Rattle.rudekpi_c.specs.Session.{stands_at, rules_at}
use Rattle.rudekpi_c.proofs.session.Session.moves_left.Goals as goal

abbrev left_by : Machine → ℕ
left_by m = moves_left (table_of (rules_at m)) (most_of (rules_at m)) (stands_at m).moment.state

pub returns-in-Hh-clause-value : goal.returns-in-Hh-clause-value
returns-in-Hh-clause-value c = subst (λ (m : Machine). c.moves_left.result ≡ left_by m) (sym c.in-Hh.is) c.moves_left.ensures.value

pub returns-in-Manne-clause-value : goal.returns-in-Manne-clause-value
returns-in-Manne-clause-value c = subst (λ (m : Machine). c.moves_left-in-Manne.result ≡ left_by m) (sym c.in-Manne.is) c.moves_left-in-Manne.ensures.value
