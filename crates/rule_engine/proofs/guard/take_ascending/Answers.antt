use Rattle.rule_engine.proofs.Prelude.{◌≡◌, ◌∙◌, ◌++◌, option_to_list, false, Some, Option, ap, sym, Moved, Outcome, outcome_of, refused_by}
use Rattle.rule_engine.proofs.NodeMarks.{item_refused, taken_more, unnamed}
use Rattle.rule_engine.proofs.guard.take_ascending.Goals as goal

pub returns-in-Err-clause-refusal : goal.returns-in-Err-clause-refusal
returns-in-Err-clause-refusal g c =
    let t = g.R.Rules.table in
    let s = c.args.state.now.state in
    let item = c.item-item.result in
    let judged : refused_by (outcome_of t s item) false ≡ Some c.in-Err.refusal = ap (λ (o : Outcome). refused_by o false) (sym c.outcome.ensures) ∙ c.in-Err.ensures in
    item_refused t s _ _ item false c.in-Err.refusal c.loop-item-test.true c.item-item.is judged (sym (unnamed _ _ item c.requires.ascend c.loop-item-test.true c.item-item.is)) ∙ c.loop-item.invariant.rest

pub loop-item-preserved : goal.loop-item-preserved
loop-item-preserved g c =
    let alone = unnamed _ _ _ c.requires.ascend c.loop-item-test.true c.item-item.is in
    let allowed = ap (refused_by c.outcome.result) alone ∙ c.in-Ok.ensures.0 in
    taken_more g.R.Rules.table c.args.state.now.state _ _ _ c.outcome.result _ _ _ _ c.loop-item-test.true c.item-item.is c.outcome.ensures allowed c.add.ensures.whole
    (λ whole. c.add.ensures.moves whole ∙ ap (λ (o : Option Moved). c.loop-item.gathered.moves.items ++ option_to_list o) (sym c.in-Ok.ensures.1)) c.loop-item.invariant
