use Rattle.local_rule.proofs.Prelude.{map, ◌∙◌, sym, star}
use Rattle.local_rule.proofs.Alike.{allowed_alike}
use Rattle.local_rule.proofs.rule.may_move.Goals as goal

pub returns-clause-machine : goal.returns-clause-machine
returns-clause-machine g c s shows =
    c.is_allowed.ensures
    ∙ sym (allowed_alike g.R.Rules.table s (star c.args.own.now (map g.T.AsRecord.shows c.args.around.now)) c.args.own.now (map g.T.AsRecord.shows c.args.around.now) c.args.act c.args.target g.R.Rules.laws.is_local g.met.R.LocalRules.targets shows c.in_ok-checked.ensures.ok)
