use Rattle.std.proofs.Common.{◌∙◌, sym}
use Rattle.containment.proofs.AbsentNames.{only_present, only_absent}
use Rattle.containment.proofs.list.only.Goals as goal

pub returns-then-has : goal.returns-then-has
returns-then-has c = c.requires ∙ only_present c.args.net.now.state.network c.args.v (sym c.has.ensures ∙ c.if-has.true)

pub returns : goal.returns
returns c = only_absent c.args.net.now.state.network c.args.v (sym c.has.ensures ∙ c.if-has.false)
