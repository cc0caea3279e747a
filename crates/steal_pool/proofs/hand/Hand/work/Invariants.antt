use Rattle.steal_pool.proofs.Prelude.{◌≡◌, ◌-◌, ◌≤◌, length, vec_capacity, end_hold, end_taken, verdicts_of, hand_hold, AreOf, StandOnce}
use Rattle.steal_pool.proofs.hand.Hand.work.Given as goal

abbrev pub invariant-loop-block : goal.invariant-loop-block
invariant-loop-block g l = record {
  hold : end_hold l.end ≡ hand_hold l.fn.self;
  judged : AreOf (verdicts_of g.R.Rules.table l.net.state l.choice) (end_taken l.end) l.verdicts.items;
  once : StandOnce (length l.choice) (end_taken l.end);
  room : length l.choice ≤ vec_capacity l.verdicts;
}

abbrev pub decreases-loop-block : goal.decreases-loop-block
decreases-loop-block g l = length l.choice - length (end_taken l.end)
