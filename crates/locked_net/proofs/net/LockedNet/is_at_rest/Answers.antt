use Rattle.locked_net.proofs.Prelude.{ap, ◌∙◌, BoardName}
use Rattle.locked_net.proofs.net.LockedNet.is_at_rest.Goals as goal

pub returns : goal.returns
returns g c = record {
  log = c.hold-held.result.log;
  own = c.hold-held.ensures.own;
  published = c.note.ensures.0;
  in_book = c.note.ensures.1 ∙ ap (λ (name : BoardName). name.book) c.hold-held.ensures.name;
  holds = rw (← c.net.ensures.state) (c.is_at_rest.ensures.rests, c.is_at_rest.ensures.idle);
}
