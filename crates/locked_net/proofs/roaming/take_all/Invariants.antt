use Rattle.locked_net.proofs.Prelude.{◌≡◌, ◌⊎◌, book_of, setting_of, noted, HasNoteOf, IsOfBook, KeepsNote, TakesTurns}
use Rattle.locked_net.proofs.roaming.take_all.Given as goal

abbrev pub invariant-loop-turn : goal.invariant-loop-turn
invariant-loop-turn g l =
    let net = l.fn.config.net.now in
    record {
      turns : TakesTurns (setting_of g.R.Rules.table net) (noted l.observer.note) l.turn l.fn.clerk.receipts l.clerk.receipts;
      note : KeepsNote (book_of net) l.fn.clerk l.clerk;
      own : (l.clerk ≡ l.fn.clerk) ⊎ HasNoteOf (book_of net) l.clerk;
      observed : IsOfBook (book_of net) l.observer;
    }
