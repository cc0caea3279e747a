use Rattle.steal_pool.proofs.Prelude.{◌≡◌, ◌+◌, ◌++◌, [], length, map, All, vec_len, range_with_len, end_hold, end_taken, AreAllEnds, hand_hold, hand_number}
use Rattle.steal_pool.proofs.dealing.deal.Given as goal

abbrev pub invariant-loop-end : goal.invariant-loop-end
invariant-loop-end l = record {
  all : AreAllEnds (length l.choice) (map hand_hold l.hands.items ++ map end_hold l.ends.items);
  fresh : All (λ e. end_taken e ≡ []) l.ends.items;
  numbered : map hand_number l.hands.items ≡ range_with_len 0 (length l.hands.items);
  number : length l.hands.items + length l.ends.items ≡ l.count;
}

abbrev pub decreases-loop-end : goal.decreases-loop-end
decreases-loop-end l = vec_len l.ends
