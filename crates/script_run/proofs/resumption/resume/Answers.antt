use Rattle.script_run.proofs.Prelude.{IfSome, subst, sym, EndsFrom}
use Rattle.rule_machine.specs.Tables.{table_of}
use Rattle.script_run.specs.Restarts.{restarted}
use Rattle.script_run.proofs.resumption.resume.Goals as goal

pub returns-in-Hh-clause-outcome : goal.returns-in-Hh-clause-outcome
returns-in-Hh-clause-outcome g c =
    let restart = c.args.restart in
    let known = g.Out.Write.contents in
    subst (λ r. IfSome (g.In.Read.remaining c.args.reader.now.reader) (λ script. EndsFrom (table_of r) restart.limit (restarted restart) script (known c.args.writer.now.writer) (known c.resume_on.new.writer.writer) c.resume_on.result)) (sym c.in-Hh.is) c.resume_on.ensures.outcome

pub returns-in-Manne-clause-outcome : goal.returns-in-Manne-clause-outcome
returns-in-Manne-clause-outcome g c =
    let restart = c.args.restart in
    let known = g.Out.Write.contents in
    subst (λ r. IfSome (g.In.Read.remaining c.args.reader.now.reader) (λ script. EndsFrom (table_of r) restart.limit (restarted restart) script (known c.args.writer.now.writer) (known c.resume_on-in-Manne.new.writer.writer) c.resume_on-in-Manne.result)) (sym c.in-Manne.is) c.resume_on-in-Manne.ensures.outcome
