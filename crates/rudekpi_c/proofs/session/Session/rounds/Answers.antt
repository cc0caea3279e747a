use Rattle.std.proofs.Common.{◌≡◌, ◌∙◌, IfSome, Option, ap, subst, sym}
use Rattle.rule_machine.specs.HsuHuang.{hsu_huang}
use Rattle.rule_machine.specs.Manne.{manne}
use Rattle.rule_machine.specs.Tables.{table_of}
use Rattle.round_laws.specs.RoundCounts.{RoundCount, rounds_of}
use Rattle.rule_engine.specs.Rounds.{HasRounds}
use Rattle.rudekpi_c.specs.declared.session.Machine.{Machine}
use Rattle.rudekpi_c.specs.declared.session.Machine.TheVariants.{Hh, Manne}
use Rattle.rudekpi_c.specs.Session.{stands_at, rules_at}
use Rattle.rudekpi_c.proofs.Moments.{at_moment}
use Rattle.rudekpi_c.proofs.session.Session.rounds.Goals as goal

abbrev CountsIn : Machine → Option RoundCount → Type 0
CountsIn m counting = IfSome counting (λ count. HasRounds (table_of (rules_at m)) (stands_at m).moment count)

pub returns-in-Hh-clause-rounds : goal.returns-in-Hh-clause-rounds
returns-in-Hh-clause-rounds c = subst (λ (m : Machine). c.rounds.result ≡ rounds_of (stands_at m).counting) (sym c.in-Hh.is) (c.rounds.ensures.count ∙ ap rounds_of c.net.ensures.counting)

pub returns-in-Manne-clause-rounds : goal.returns-in-Manne-clause-rounds
returns-in-Manne-clause-rounds c =
    subst (λ (m : Machine). c.rounds-in-Manne.result ≡ rounds_of (stands_at m).counting) (sym c.in-Manne.is) (c.rounds-in-Manne.ensures.count ∙ ap rounds_of c.net-in-Manne.ensures.counting)

pub returns-in-Hh-clause-some : goal.returns-in-Hh-clause-some
returns-in-Hh-clause-some c =
    subst (λ (m : Machine). CountsIn m (stands_at m).counting) (sym c.in-Hh.is) (subst (CountsIn (Hh c.in-Hh.run')) c.net.ensures.counting
    (at_moment (λ m. IfSome c.net.result.now.counting (λ count. HasRounds hsu_huang m count)) c.net.ensures.state c.net.ensures.spent c.rounds.ensures.some))

pub returns-in-Manne-clause-some : goal.returns-in-Manne-clause-some
returns-in-Manne-clause-some c =
    subst (λ (m : Machine). CountsIn m (stands_at m).counting) (sym c.in-Manne.is) (subst (CountsIn (Manne c.in-Manne.run')) c.net-in-Manne.ensures.counting
    (at_moment (λ m. IfSome c.net-in-Manne.result.now.counting (λ count. HasRounds manne m count)) c.net-in-Manne.ensures.state c.net-in-Manne.ensures.spent c.rounds-in-Manne.ensures.some))
