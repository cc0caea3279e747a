use Rattle.rule_engine.proofs.Prelude.{◌&&◌, nat_eq, take, list_any, asks_for, turns_with, IsRefreshed}
use Rattle.enabled_set.specs.RemovedNames.{KeepsNotes}
use Rattle.rule_engine.proofs.look.look_where_turned.Given as goal

abbrev pub invariant-loop-w : goal.invariant-loop-w
invariant-loop-w g l = record {
  set : IsRefreshed g.R.Rules.table l.state.state
      (λ x. list_any (λ y. nat_eq x y && (asks_for g.R.Rules.COURTS_HIGHER_ONLY y l.v && turns_with g.R.Rules.COURTS_HIGHER_ONLY g.R.Rules.table.opens l.state.state l.v y)) (take l.w-index l.w-items)) l.fn.enabled l.enabled;
  noted : KeepsNotes l.fn.enabled l.fn.removals l.enabled l.removals;
}
