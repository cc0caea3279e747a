use Rattle.std.proofs.Common.{codes}
use Rattle.byte_streams.proofs.SplitWrites.{either_begins}
use Rattle.storm_runner.proofs.LineOutput.{written_whole}
use Rattle.command_line.proofs.program.tell_bad_present.Goals as goal

pub returns-clause-told : goal.returns-clause-told
returns-clause-told g c =
    let known = g.Faults.Write.contents in
    either_begins (known c.args.faults.now.writer) (known c.finish.new.self.writer) (codes "! bad present\n") c.finish.result c.finish.ensures.ok c.finish.ensures.fault

pub returns-clause-whole : goal.returns-clause-whole
returns-clause-whole g c =
    let known = g.Faults.Write.contents in
    let told = c.finish in
    written_whole (known c.args.faults.now.writer) (known told.new.self.writer) (codes "! bad present\n") told.new.self.failed told.result told.ensures.ok told.ensures.unwritten
