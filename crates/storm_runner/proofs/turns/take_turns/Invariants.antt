use Rattle.storm_runner.proofs.Prelude.{◌≡◌, IsPrefix, book_of, setting_of, IsOfBook, noted}
use Rattle.storm_runner.proofs.TurnAddition.{Took}
use Rattle.storm_runner.proofs.turns.take_turns.Given as goal

abbrev pub invariant-loop : goal.invariant-loop
invariant-loop g l = record {
  took : Took (setting_of g.R.Rules.table l.fn.net) g.S.EventSource.draws (g.S.EventSource.stream l.fn.source) (g.S.EventSource.stream l.source) l.counter l.fn.clerk l.clerk;
  note : IsOfBook (book_of l.fn.net) l.clerk;
  grows : IsPrefix (noted l.fn.clerk.note) (noted l.clerk.note);
  base : l.clerk.base ≡ l.fn.clerk.base;
}
