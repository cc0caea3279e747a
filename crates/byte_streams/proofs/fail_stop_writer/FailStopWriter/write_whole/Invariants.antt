use Rattle.std.proofs.Common.{◌≡◌, length}
use Rattle.byte_streams.proofs.WriterOutput.{Handed}
use Rattle.byte_streams.proofs.fail_stop_writer.FailStopWriter.write_whole.Given as goal

abbrev pub invariant-loop-rest : goal.invariant-loop-rest
invariant-loop-rest g l = record {
  handed : Handed (g.Out.Write.contents l.fn.self.writer) (g.Out.Write.contents l.self.writer) l.bytes l.rest;
  good : l.self.failed ≡ l.fn.self.failed;
}

abbrev pub decreases-loop-rest : goal.decreases-loop-rest
decreases-loop-rest g l = length l.rest
