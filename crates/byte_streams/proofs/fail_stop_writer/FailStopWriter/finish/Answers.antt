use Rattle.std.proofs.Common.{Ok, Err, OnErr}
use Rattle.byte_streams.specs.PartialOutput.{AppendsBeginning}
use Rattle.byte_streams.proofs.WriterOutput.{AppendsAll-kept}
use Rattle.byte_streams.proofs.fail_stop_writer.FailStopWriter.finish.Goals as goal

pub returns-clause-fault : goal.returns-clause-fault
returns-clause-fault g c =
    let known = g.Out.Write.contents in
    let all = AppendsAll-kept (known c.args.self.now.writer) (known c.write_whole.new.self.writer) (known c.flush_once.new.self.writer) c.args.bytes.now c.in_ok-write_whole.ensures.ok c.flush_once.ensures.bytes in
    elim (c.flush_once.result) as (λ r. OnErr r (AppendsBeginning (known c.args.self.now.writer) (known c.flush_once.new.self.writer) c.args.bytes.now)) [ Ok _ ↦ tt | Err _ ↦ all ]
