use Rattle.rule_engine.proofs.Prelude.{ℕ, ◌<◌, ◌≤◌, get_or, Item}
use Rattle.rule_engine.proofs.guard.ascend.Given as goal

-- the items so far ascend, up to the last
abbrev pub invariant-loop-item : goal.invariant-loop-item
invariant-loop-item l = record {
  last : (k : ℕ) (d : Item) → k < l.item-index → (get_or l.items k d).node ≤ l.last;
  ascend : (i j : ℕ) (d : Item) → i < j → j < l.item-index → (get_or l.items i d).node < (get_or l.items j d).node;
}
