use Rattle.local_rule.proofs.Prelude.{map, ◌≡◌, List, Option, None, Some, sym, ap, ◌∙◌, option_map, Act, NodeRecord, State, RuleTable, rule_at, least_target, ShowsAtNode, star}
use Rattle.local_rule.specs.Moves.{move_at, move_from, TargetsAreLocal}
use Rattle.local_rule.proofs.Alike.{GuardsAreLocal, move_alike}
use Rattle.local_rule.proofs.rule.local_rule.Goals as goal

-- what the machine does, by the rule that is enabled in one state that shows the same
by_rule : (t : RuleTable) (s u : State) (own : NodeRecord) (around : List NodeRecord) (o : Option Act) → GuardsAreLocal t → TargetsAreLocal t → ShowsAtNode s own around → ShowsAtNode u own around → rule_at t u own.node ≡ o → option_map (λ act. move_from own around act (least_target t u own.node act)) o ≡ move_at t s own.node
by_rule t s u own around o guards targets here there is =
    sym (move_alike t s u own around guards targets here there ∙ ap (option_map (λ act. move_from own around act (least_target t u own.node act))) is)

pub returns-in-None-clause-machine : goal.returns-in-None-clause-machine
returns-in-None-clause-machine g c s shows =
    by_rule g.R.Rules.table s (star c.args.own.now (map g.T.AsRecord.shows c.args.around.now)) c.args.own.now (map g.T.AsRecord.shows c.args.around.now) None g.R.Rules.laws.is_local g.met.R.LocalRules.targets shows c.in_ok-checked.ensures.ok (sym c.in-None.ensures)

pub returns-in-Some-clause-machine : goal.returns-in-Some-clause-machine
returns-in-Some-clause-machine g c s shows =
    ap Some (c.move_from.ensures ∙ ap (move_from c.args.own.now (map g.T.AsRecord.shows c.args.around.now) c.in-Some.act) c.least-target.ensures)
    ∙ by_rule g.R.Rules.table s (star c.args.own.now (map g.T.AsRecord.shows c.args.around.now)) c.args.own.now (map g.T.AsRecord.shows c.args.around.now) (Some c.in-Some.act) g.R.Rules.laws.is_local g.met.R.LocalRules.targets shows c.in_ok-checked.ensures.ok (sym c.in-Some.ensures)
