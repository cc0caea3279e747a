use Rattle.std.proofs.Common.{sym, subst}
use Rattle.rule_machine.specs.Tables.{table_of}
use Rattle.rudekpi_c.specs.declared.session.Machine.{Machine}
use Rattle.rudekpi_c.specs.Session.{stands_at, rules_at}
use Rattle.rudekpi_c.specs.SilentDrives.{LineSilences}
use Rattle.rudekpi_c.proofs.session.Machine.feed.Goals as goal

pub returns-in-Hh-clause-silent : goal.returns-in-Hh-clause-silent
returns-in-Hh-clause-silent c done =
    subst (λ (m : Machine). LineSilences (table_of (rules_at m)) c.args.line.now (stands_at m).moment.state c.carry_out.new.self.recorder.state) (sym c.in-Hh.is)
    (λ turns says few. c.carry_out.ensures.silent turns says done few)

pub returns-in-Manne-clause-silent : goal.returns-in-Manne-clause-silent
returns-in-Manne-clause-silent c done =
    subst (λ (m : Machine). LineSilences (table_of (rules_at m)) c.args.line.now (stands_at m).moment.state c.carry_out-in-Manne.new.self.recorder.state) (sym c.in-Manne.is)
    (λ turns says few. c.carry_out-in-Manne.ensures.silent turns says done few)
