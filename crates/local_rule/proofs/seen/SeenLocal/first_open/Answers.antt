use Rattle.local_rule.proofs.Prelude.{map, ◌∙◌, star}
use Rattle.local_rule.proofs.Looks.{shown_open}
use Rattle.local_rule.proofs.seen.SeenLocal.first_open.Goals as goal

pub returns : goal.returns
returns g c =
    let it = c.args.self.now in
    let around = map g.T.AsRecord.shows it.around.now in
    c.first_open.ensures ∙ shown_open g.R.Rules.table.opens (star it.own.now around) it.own.now around it.shown
