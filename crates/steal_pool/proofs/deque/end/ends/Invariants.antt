use Rattle.steal_pool.proofs.Prelude.{◌≡◌, ◌+◌, ◌-◌, [], All, length, ledger, owner_deque, owner_ledger}
use Rattle.steal_pool.proofs.Joinings.{IsPart}
use Rattle.steal_pool.proofs.deque.end.ends.Given as goal

abbrev pub invariant-loop-made : goal.invariant-loop-made
invariant-loop-made l = record {
  parts : All (IsPart (owner_deque l.owner) l.count) l.ends.items;
  size : length l.ends.items + 1 ≡ l.made;
  known : owner_ledger l.owner ≡ ledger (65 - l.made) l.count [];
}
