use Rattle.suitor_index.proofs.Prelude.{◌∙◌, ap, subst, pointer, TurnsNoneWith}
use Rattle.suitor_index.proofs.NodeChanges.{half_flagged, told_ready, told_index}
use Rattle.suitor_index.proofs.TurningNeighbours.{told_none}
use Rattle.suitor_index.proofs.changes.flagged.Goals as goal

pub turn-requires : goal.turn-requires
turn-requires g c =
    let half = half_flagged _ _ _ _ _ _ _ c.requires.told _ _ _ _ _ c.neighbours.ensures.all c.pointer.ensures c.pointer-2.ensures c.opens-was_open.ensures c.opens-is_open.ensures in
    let ready = told_ready _ _ _ _ _ _ _ _ _ _ half in record { rising = ready.0; within = ready.1; turns = ready.2 }

pub returns : goal.returns
returns g c =
    let half = half_flagged _ _ _ _ _ _ _ c.requires.told _ _ _ _ _ c.neighbours.ensures.all c.pointer.ensures c.pointer-2.ensures c.opens-was_open.ensures c.opens-is_open.ensures in
    let index = told_index _ _ _ _ _ _ _ _ _ _ _ half c.turn.ensures.turned in
    let u = c.args.net.now.state in
    let v = c.args.v in
    record {
      index = index;
      none = λ off.
          subst (λ b. TurnsNoneWith g.R.Rules.COURTS_HIGHER_ONLY g.R.Rules.table.opens u v b (g.R.Rules.table.opens (pointer u v) c.args.is)) (c.opens-was_open.ensures ∙ ap (λ o. g.R.Rules.table.opens o c.args.was) c.pointer.ensures)
          (subst (TurnsNoneWith g.R.Rules.COURTS_HIGHER_ONLY g.R.Rules.table.opens u v c.opens-was_open.result) (c.opens-is_open.ensures ∙ ap (λ o. g.R.Rules.table.opens o c.args.is) c.pointer-2.ensures)
          (told_none _ _ _ _ _ _ _ _ _ _ _ half index (c.turn.ensures.none off)));
    }
