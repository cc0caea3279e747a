use Rattle.run_session.proofs.Prelude.{◌≡◌, progress}
use Rattle.run_session.proofs.TurnProgress.{Turned}
use Rattle.run_session.proofs.run.Run.take_turns.Given as goal

abbrev pub invariant-loop : goal.invariant-loop
invariant-loop g l =
    let begun = l.fn.self in
    let run = l.self in record {
      limit : run.recorder.limit ≡ begun.recorder.limit;
      turned : Turned g.S.EventSource.draws g.R.Rules.table begun.recorder.limit l.count l.counter (g.S.EventSource.stream l.fn.source) (g.S.EventSource.stream l.source) (progress begun.rules begun.recorder begun.text.items) (progress run.rules run.recorder run.text.items);
      unasked : begun.recorder.len ≡ begun.recorder.limit → (g.S.EventSource.stream l.source ≡ g.S.EventSource.stream l.fn.source) × (run.recorder.len ≡ begun.recorder.limit);
    }
