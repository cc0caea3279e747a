use Rattle.std.proofs.Common.{sym, subst}
use Rattle.rule_machine.specs.HsuHuang.{hsu_huang}
use Rattle.rule_machine.specs.Manne.{manne}
use Rattle.rule_machine.specs.Tables.{table_of}
use Rattle.rule_engine.specs.Costs.{BoundsGrowth}
use Rattle.rudekpi_c.specs.declared.session.Machine.{Machine}
use Rattle.rudekpi_c.specs.Session.{stands_at, rules_at}
use Rattle.rudekpi_c.proofs.Moments.{at_moment}
use Rattle.rudekpi_c.proofs.session.Session.cost_of.Goals as goal

pub returns-in-Hh-clause-grows : goal.returns-in-Hh-clause-grows
returns-in-Hh-clause-grows c =
    subst (λ (m : Machine). BoundsGrowth (table_of (rules_at m)) (stands_at m).moment.state (stands_at m).moment.spent c.args.event.now c.cost_of.result) (sym c.in-Hh.is)
    (at_moment (λ m. BoundsGrowth hsu_huang m.state m.spent c.args.event.now c.cost_of.result) c.net.ensures.state c.net.ensures.spent c.cost_of.ensures.grows)

pub returns-in-Manne-clause-grows : goal.returns-in-Manne-clause-grows
returns-in-Manne-clause-grows c =
    subst (λ (m : Machine). BoundsGrowth (table_of (rules_at m)) (stands_at m).moment.state (stands_at m).moment.spent c.args.event.now c.cost_of-in-Manne.result) (sym c.in-Manne.is)
    (at_moment (λ m. BoundsGrowth manne m.state m.spent c.args.event.now c.cost_of-in-Manne.result) c.net-in-Manne.ensures.state c.net-in-Manne.ensures.spent c.cost_of-in-Manne.ensures.grows)
