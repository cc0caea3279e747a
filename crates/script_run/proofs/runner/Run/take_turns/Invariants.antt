use Rattle.script_run.proofs.Prelude.{◌≡◌, ◌-◌, ◌≤◌, progress}
use Rattle.script_run.proofs.LongLines.{SoFar}
use Rattle.script_run.proofs.runner.Run.take_turns.Given as goal

abbrev pub invariant-loop-left : goal.invariant-loop-left
invariant-loop-left g l =
    let known = g.Out.Write.contents in
    let begun = l.fn.self.line in
    let run = l.self.line in record {
      limit : run.recorder.limit ≡ begun.recorder.limit;
      within : l.left ≤ l.count;
      so_far : SoFar g.S.EventSource.draws g.R.Rules.table begun.recorder.limit (l.count - l.left) (g.S.EventSource.stream l.fn.source) (g.S.EventSource.stream l.source)
          (progress begun.rules begun.recorder begun.text.items) (progress run.rules run.recorder run.text.items) (known l.fn.writer.writer) (known l.writer.writer);
    }

abbrev pub decreases-loop-left : goal.decreases-loop-left
decreases-loop-left g l = l.left
