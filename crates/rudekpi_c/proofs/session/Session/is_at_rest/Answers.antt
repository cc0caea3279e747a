use Rattle.std.proofs.Common.{IsTrue, sym, subst}
use Rattle.rule_machine.specs.HsuHuang.{hsu_huang}
use Rattle.rule_machine.specs.Manne.{manne}
use Rattle.rule_machine.specs.Tables.{table_of}
use Rattle.rule_engine.specs.DisturbanceReach.{StaysAtRest}
use Rattle.rudekpi_c.specs.declared.session.Machine.{Machine}
use Rattle.rudekpi_c.specs.Session.{stands_at, rules_at}
use Rattle.rudekpi_c.proofs.Moments.{at_moment}
use Rattle.rudekpi_c.proofs.session.Session.is_at_rest.Goals as goal

pub returns-in-Hh-clause-stays : goal.returns-in-Hh-clause-stays
returns-in-Hh-clause-stays c =
    subst (λ (m : Machine). IsTrue c.is_at_rest.result → StaysAtRest (table_of (rules_at m)) (stands_at m).moment c.args.v) (sym c.in-Hh.is)
    (λ rests. at_moment (λ m. StaysAtRest hsu_huang m c.args.v) c.net.ensures.state c.net.ensures.spent (c.is_at_rest.ensures.stays rests))

pub returns-in-Manne-clause-stays : goal.returns-in-Manne-clause-stays
returns-in-Manne-clause-stays c =
    subst (λ (m : Machine). IsTrue c.is_at_rest-in-Manne.result → StaysAtRest (table_of (rules_at m)) (stands_at m).moment c.args.v) (sym c.in-Manne.is)
    (λ rests. at_moment (λ m. StaysAtRest manne m c.args.v) c.net-in-Manne.ensures.state c.net-in-Manne.ensures.spent (c.is_at_rest-in-Manne.ensures.stays rests))
