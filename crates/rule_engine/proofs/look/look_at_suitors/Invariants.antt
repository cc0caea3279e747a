use Rattle.rule_engine.proofs.Prelude.{◌&&◌, nat_eq, take, list_any, suits, IsRefreshed}
use Rattle.enabled_set.specs.RemovedNames.{KeepsNotes}
use Rattle.rule_engine.proofs.look.look_at_suitors.Given as goal

abbrev pub invariant-loop-w : goal.invariant-loop-w
invariant-loop-w g l = record {
  set : IsRefreshed g.R.Rules.table l.state.state (λ x. list_any (λ y. nat_eq x y && suits l.state.state l.v y) (take l.w-index l.neighbours)) l.fn.enabled l.enabled;
  noted : KeepsNotes l.fn.enabled l.fn.removals l.enabled l.removals;
}
