use Rattle.local_rule.proofs.Prelude.{map, ◌∙◌, star}
use Rattle.local_rule.proofs.Looks.{shown_married}
use Rattle.local_rule.proofs.seen.SeenLocal.married.Goals as goal

pub returns : goal.returns
returns g c =
    let it = c.args.self.now in
    let around = map g.T.AsRecord.shows it.around.now in
    c.is_answered.ensures ∙ shown_married (star it.own.now around) it.own.now around it.shown
