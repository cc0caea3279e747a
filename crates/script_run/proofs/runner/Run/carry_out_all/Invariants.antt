use Rattle.script_run.proofs.Prelude.{◌≡◌, ◌≤◌, ◌+◌, ◌-◌, ◌*◌, length, progress}
use Rattle.script_run.proofs.RunProgress.{Came}
use Rattle.script_run.proofs.runner.Run.carry_out_all.Given as goal

abbrev pub invariant-loop-reading : goal.invariant-loop-reading
invariant-loop-reading g l =
    let begun = l.fn.self.line in
    let run = l.self.line in
    let left = g.In.Read.remaining in record {
      limit : run.recorder.limit ≡ begun.recorder.limit;
      stands : Came g.R.Rules.table begun.recorder.limit (progress begun.rules begun.recorder begun.text.items) (g.Out.Write.contents l.fn.writer.writer) (left l.fn.reader.reader) (left l.reader.reader)
          l.reading.begun.items l.reading.lines (progress run.rules run.recorder run.text.items) (g.Out.Write.contents l.writer.writer);
      room : l.reading.lines + length l.reading.begun.items ≤ l.reader.count * 65536;
      chunk : length l.chunk.items ≡ 65536;
    }

abbrev pub decreases-loop-reading : goal.decreases-loop-reading
decreases-loop-reading g l = 4294967295 - l.reader.count
