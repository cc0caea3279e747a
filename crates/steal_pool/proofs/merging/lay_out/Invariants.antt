use Rattle.steal_pool.proofs.Prelude.{◌≡◌, ℕ, ◌+◌, ◌++◌, length, map, All, vec_len, sum_by, end_hold, end_taken, AreAllEnds, verdicts_of, all_taken, judged_hold, AreJudged, IsVerdictTable, taken_by}
use Rattle.steal_pool.proofs.merging.lay_out.Given as goal

abbrev pub invariant-loop-share : goal.invariant-loop-share
invariant-loop-share g l = record {
  all : AreAllEnds (length l.choice) (map end_hold l.ends.items ++ map judged_hold l.shares.items);
  judged : All (AreJudged g.R.Rules.table l.net.state l.choice) l.shares.items;
  right : IsVerdictTable (verdicts_of g.R.Rules.table l.net.state l.choice) l.table (taken_by l.ends.items);
  taken : (h : ℕ → ℕ) → sum_by (λ e. sum_by h (end_taken e)) l.ends.items + sum_by h (all_taken l.shares.items) ≡ sum_by h (all_taken l.fn.shares.items);
}

abbrev pub decreases-loop-share : goal.decreases-loop-share
decreases-loop-share g l = vec_len l.shares
