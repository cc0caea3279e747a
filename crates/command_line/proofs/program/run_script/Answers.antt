use Rattle.std.proofs.Common.{Ok, Err, refl}
use Rattle.std.proofs.KnownBytes.{Keeps-refl}
use Rattle.command_line.specs.WriterStates.{heard}
use Rattle.command_line.proofs.ResumedRuns.{ran}
use Rattle.command_line.proofs.program.run_script.Goals as goal

pub returns-in-Ok-clause-outcome : goal.returns-in-Ok-clause-outcome
returns-in-Ok-clause-outcome g c =
    let o = c.args.options.now in
    let out = g.Out.Write.contents in
    let told = g.Faults.Write.contents in
    ran (g.In.Read.remaining c.args.reader.now.reader) o.rules o.nodes o.present o.limit (Ok c.in-Ok.field-0) (out c.args.writer.now.writer) (out c.run.new.writer.writer) (told c.args.faults.now.writer) (heard told c.args.faults.now) 0
    o.few_nodes o.within o.few_entries c.in-Ok.ensures.outcome (Keeps-refl (told c.args.faults.now.writer)) refl

pub returns-clause-outcome : goal.returns-clause-outcome
returns-clause-outcome g c =
    let o = c.args.options.now in
    let out = g.Out.Write.contents in
    let told = g.Faults.Write.contents in
    ran (g.In.Read.remaining c.args.reader.now.reader) o.rules o.nodes o.present o.limit (Err c.in-Err.fault) (out c.args.writer.now.writer) (out c.run.new.writer.writer) (told c.args.faults.now.writer) (heard told c.tell_run.new.faults) c.tell_run.result
    o.few_nodes o.within o.few_entries c.in-Err.ensures.outcome c.tell_run.ensures.told c.tell_run.ensures.status
