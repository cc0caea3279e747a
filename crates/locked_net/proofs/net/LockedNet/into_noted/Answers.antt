use Rattle.locked_net.proofs.Prelude.{ap, ◌∙◌, BoardName}
use Rattle.locked_net.proofs.net.LockedNet.into_noted.Goals as goal

pub returns-clause-published : goal.returns-clause-published
returns-clause-published g c =
    let published = c.into_published-published.result in
    let key = c.into_published-published.ensures in
    let closed = c.close.ensures in
    record {
      part = record { log = published.log; own = record { run = closed.run; nodes = key.nodes; present = key.present; base = key.begun; limit = key.limit }; above = closed.above };
      published = c.note-last.ensures.0;
      in_book = c.note-last.ensures.1 ∙ ap (λ (name : BoardName). name.book) key.name;
    }
