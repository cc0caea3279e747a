use Rattle.auditor.proofs.Prelude.{◌≡◌, ◌-◌, ℕ, List, false, length, Consumes, HasReadPieces}
use Rattle.auditor.proofs.transcript.judge_read.Given as goal

abbrev pub invariant-loop-len : goal.invariant-loop-len
invariant-loop-len g l = record {
  read : List ℕ;
  consumed : Consumes (g.In.Read.remaining l.fn.reader.reader) (g.In.Read.remaining l.reader.reader) read;
  is : HasReadPieces read l.audit;
  room : length l.chunk.items ≡ 65536;
  readable : l.fn.reader.failed ≡ false → l.reader.failed ≡ false;
}

abbrev pub decreases-loop-len : goal.decreases-loop-len
decreases-loop-len g l = 4294967295 - l.reader.count
