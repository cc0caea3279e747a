use Rattle.local_rule.proofs.Prelude.{map, ◌∙◌, ap, is_some, star}
use Rattle.local_rule.proofs.Looks.{shown_open_above}
use Rattle.local_rule.proofs.seen.SeenLocal.has_open_above.Goals as goal

pub returns : goal.returns
returns g c =
    let it = c.args.self.now in
    let around = map g.T.AsRecord.shows it.around.now in
    c.is_some.ensures ∙ ap is_some (c.last_open_above.ensures ∙ shown_open_above g.R.Rules.table.opens (star it.own.now around) it.own.now around it.shown)
