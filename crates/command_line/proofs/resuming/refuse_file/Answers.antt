use Rattle.command_line.specs.WriterStates.{heard}
use Rattle.command_line.proofs.ResumedRuns.{fault_told}
use Rattle.command_line.proofs.resuming.refuse_file.Goals as goal

pub returns-in_default-clause-told : goal.returns-in_default-clause-told
returns-in_default-clause-told g c known =
    let contents = g.Faults.Write.contents in
    fault_told (λ l. l.items) c.damaged_line.result c.args.file.now c.args.fault known (contents c.args.faults.now.writer) (heard contents c.tell_damage.new.faults) c.tell_damage.result c.in_default.not-Read c.in_default.not-Memory
    c.damaged_line.ensures c.tell_damage.ensures.told c.tell_damage.ensures.memory
