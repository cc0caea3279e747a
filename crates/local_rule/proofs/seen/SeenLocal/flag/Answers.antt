use Rattle.local_rule.proofs.Prelude.{map, ◌≡◌, ◌∙◌, None, Some, ap, sym, star, record_in, flag_in}
use Rattle.local_rule.proofs.Looks.{shown_flag}
use Rattle.local_rule.proofs.seen.SeenLocal.flag.Goals as goal

pub returns-in-Some : goal.returns-in-Some
returns-in-Some g c =
    let it = c.args.self.now in
    let around = map g.T.AsRecord.shows it.around.now in
    let here : Some c.in-Some.row ≡ record_in it.own.now around c.args.v = sym c.in-Some.is ∙ c.record_in.ensures in
    ap flag_in here ∙ shown_flag (star it.own.now around) it.own.now around c.args.v it.shown c.requires.near

pub returns-in-None : goal.returns-in-None
returns-in-None g c =
    let it = c.args.self.now in
    let around = map g.T.AsRecord.shows it.around.now in
    let here : None ≡ record_in it.own.now around c.args.v = sym c.in-None.is ∙ c.record_in.ensures in
    ap flag_in here ∙ shown_flag (star it.own.now around) it.own.now around c.args.v it.shown c.requires.near
