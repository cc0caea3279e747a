use Rattle.suitor_index.proofs.Prelude.{◌∙◌, ap, subst, flag, TurnsNoneWith}
use Rattle.suitor_index.proofs.NodeChanges.{old_counted, new_fits, new_within, half_pointed, told_ready, told_index}
use Rattle.suitor_index.proofs.TurningNeighbours.{told_none}
use Rattle.suitor_index.proofs.changes.pointed.Goals as goal

pub leave-requires-clause-counted : goal.leave-requires-clause-counted
leave-requires-clause-counted g c = old_counted _ _ _ _ _ _ _ c.requires.told

pub court-requires-clause-within : goal.court-requires-clause-within
court-requires-clause-within g c = new_within _ _ _ _ _ _ _ c.requires.told _ c.leave.ensures

pub court-requires-clause-room : goal.court-requires-clause-room
court-requires-clause-room g c = new_fits _ _ _ _ _ _ _ c.requires.told _ c.leave.ensures

pub turn-requires : goal.turn-requires
turn-requires g c =
    let half = half_pointed _ _ _ _ _ _ _ c.requires.told _ _ _ _ _ _ _ c.leave.ensures c.court.ensures c.aim.ensures c.neighbours.ensures.all c.flag-flag.ensures c.opens-was_open.ensures c.opens-is_open.ensures in
    let ready = told_ready _ _ _ _ _ _ _ _ _ _ half in record { rising = ready.0; within = ready.1; turns = ready.2 }

pub returns : goal.returns
returns g c =
    let half = half_pointed _ _ _ _ _ _ _ c.requires.told _ _ _ _ _ _ _ c.leave.ensures c.court.ensures c.aim.ensures c.neighbours.ensures.all c.flag-flag.ensures c.opens-was_open.ensures c.opens-is_open.ensures in
    let index = told_index _ _ _ _ _ _ _ _ _ _ _ half c.turn.ensures.turned in
    let u = c.args.net.now.state in
    let v = c.args.v in
    record {
      index = index;
      none = λ off.
          subst (λ b. TurnsNoneWith g.R.Rules.COURTS_HIGHER_ONLY g.R.Rules.table.opens u v b (g.R.Rules.table.opens c.args.is (flag u v))) (c.opens-was_open.ensures ∙ ap (g.R.Rules.table.opens c.args.was) c.flag-flag.ensures)
          (subst (TurnsNoneWith g.R.Rules.COURTS_HIGHER_ONLY g.R.Rules.table.opens u v c.opens-was_open.result) (c.opens-is_open.ensures ∙ ap (g.R.Rules.table.opens c.args.is) c.flag-flag.ensures)
          (told_none _ _ _ _ _ _ _ _ _ _ _ half index (c.turn.ensures.none off)));
    }
