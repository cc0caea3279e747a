use Rattle.suitor_index.proofs.Prelude.{◌≡◌, false, nat_eq, take, list_any, HasNoneAlone, IsTurned}
use Rattle.suitor_index.proofs.Loops.{AllAsk}
use Rattle.suitor_index.proofs.table.turn.Given as goal

-- the names so far ask, and are updated; unless one was found alone, none of them is
abbrev pub invariant-loop-w : goal.invariant-loop-w
invariant-loop-w g l = record {
  ask : AllAsk g.R.Rules.COURTS_HIGHER_ONLY l.v (take l.w-index l.nodes);
  told : IsTurned (λ k. list_any (nat_eq k) (take l.w-index l.nodes)) l.was l.is l.fn.tallies l.tallies;
  none : l.alone ≡ false → HasNoneAlone (λ k. list_any (nat_eq k) (take l.w-index l.nodes)) l.is l.tallies;
}
