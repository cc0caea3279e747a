use Rattle.std.proofs.Common.{Ok, Err, OnErr, sym, subst, arith}
use Rattle.byte_streams.specs.PartialOutput.{AppendsLess}
use Rattle.std.proofs.lemmas.List.{take_rest}
use Rattle.byte_streams.proofs.WriterOutput.{Handed, Handed-more, Handed-less}
use Rattle.byte_streams.proofs.fail_stop_writer.FailStopWriter.write_whole.Goals as goal

pub returns-in_err-len-clause-fault : goal.returns-in_err-len-clause-fault
returns-in_err-len-clause-fault g c =
    let known = g.Out.Write.contents in
    let rest = c.loop-rest.rest.now in
    let less = Handed-less (known c.args.self.now.writer) (known c.loop-rest.self.writer) (known c.write.new.self.writer) c.args.bytes.now rest c.loop-rest.invariant.handed (grind arith) c.in_err-len.ensures.kept in
    elim (c.from_residual.result) as (λ r. OnErr r (AppendsLess (known c.args.self.now.writer) (known c.write.new.self.writer) c.args.bytes.now)) [ Ok _ ↦ tt | Err _ ↦ less ]

pub loop-rest-preserved : goal.loop-rest-preserved
loop-rest-preserved g c =
    let rest = c.loop-rest.rest.now in
    let len = c.in_ok-len.len in
    let known = g.Out.Write.contents in
    let more = Handed-more (known c.args.self.now.writer) (known c.loop-rest.self.writer) (known c.write.new.self.writer) c.args.bytes.now rest len c.loop-rest.invariant.handed c.in_ok-len.ensures.bytes in
    record {
      handed = subst (Handed (known c.args.self.now.writer) (known c.write.new.self.writer) c.args.bytes.now) (sym (take_rest rest len)) more;
      good = grind arith;
    }
