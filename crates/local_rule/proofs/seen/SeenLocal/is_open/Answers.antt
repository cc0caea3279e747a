use Rattle.local_rule.proofs.Prelude.{map, ◌∙◌, star}
use Rattle.local_rule.proofs.Looks.{shown_opens}
use Rattle.local_rule.proofs.seen.SeenLocal.is_open.Goals as goal

pub returns : goal.returns
returns g c =
    let it = c.args.self.now in
    let around = map g.T.AsRecord.shows it.around.now in
    c.is_open.ensures ∙ shown_opens g.R.Rules.table.opens (star it.own.now around) it.own.now around c.args.w it.shown
