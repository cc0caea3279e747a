use Rattle.script_run.proofs.Prelude.{◌≡◌, ◌≤◌, ◌+◌, ℕ, List, Option, length, Progress, progress, IsReadUpTo}
use Rattle.script_run.proofs.runner.Run.carry_out_piece.Given as goal

abbrev pub invariant-loop-end : goal.invariant-loop-end
invariant-loop-end g l =
    let known = g.Out.Write.contents in
    let begun = l.fn.self.line in
    let from = l.fn.reading in
    let run = l.self.line in record {
      limit : run.recorder.limit ≡ begun.recorder.limit;
      stands : (start : Progress) (old : Option (List ℕ)) (read : List ℕ)
          → IsReadUpTo g.R.Rules.table begun.recorder.limit start old read from.begun.items l.piece from.lines (progress begun.rules begun.recorder begun.text.items) (known l.fn.writer.writer)
          → IsReadUpTo g.R.Rules.table begun.recorder.limit start old read l.reading.begun.items l.rest l.reading.lines (progress run.rules run.recorder run.text.items) (known l.writer.writer);
      room : l.reading.lines + length l.reading.begun.items + length l.rest ≤ from.lines + length from.begun.items + length l.piece;
    }

abbrev pub decreases-loop-end : goal.decreases-loop-end
decreases-loop-end g l = length l.rest
