use Rattle.command_line.specs.FaultText.{run_fault_line}
use Rattle.byte_streams.proofs.SplitWrites.{either_begins}
use Rattle.storm_runner.proofs.LineOutput.{written_whole}
use Rattle.command_line.proofs.program.tell.Goals as goal

pub returns-clause-told : goal.returns-clause-told
returns-clause-told g c =
    let known = g.Faults.Write.contents in
    either_begins (known c.args.faults.now.writer) (known c.write_fault.new.faults.writer) (run_fault_line c.args.fault) c.write_fault.result c.write_fault.ensures.ok c.write_fault.ensures.fault

pub returns-clause-whole : goal.returns-clause-whole
returns-clause-whole g c =
    let known = g.Faults.Write.contents in
    let told = c.write_fault in
    written_whole (known c.args.faults.now.writer) (known told.new.faults.writer) (run_fault_line c.args.fault) told.new.faults.failed told.result told.ensures.ok told.ensures.unwritten
