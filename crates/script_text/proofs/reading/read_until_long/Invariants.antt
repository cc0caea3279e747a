use Rattle.std.proofs.Common.{◌≡◌, ◌≤◌, ◌+◌, ◌-◌, length}
use Rattle.std.specs.Io.KnownBytes.{Consumes}
use Rattle.script_text.specs.Texts.{EndsInLine}
use Rattle.script_text.proofs.reading.read_until_long.Given as goal

abbrev pub invariant-loop-begun : goal.invariant-loop-begun
invariant-loop-begun g l = record {
  consumed : Consumes (g.In.Read.remaining l.fn.reader.reader) (g.In.Read.remaining l.reader.reader) l.text.items;
  room : length l.chunk.items ≡ 65536;
  ends : EndsInLine l.text.items l.begun;
  few : l.begun ≤ l.most + 65536;
}

abbrev pub decreases-loop-begun : goal.decreases-loop-begun
decreases-loop-begun g l = 4294967295 - l.reader.count
