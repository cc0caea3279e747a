use Rattle.steal_pool.proofs.Prelude.{ℕ, ◌+◌, ◌-◌, ◌≤◌, List, ◌++◌, length, vec_capacity, range_with_len, verdicts_of, AreOf}
use Rattle.steal_pool.proofs.worker.judge_block.Given as goal

abbrev pub invariant-loop-place : goal.invariant-loop-place
invariant-loop-place g l =
    let all = verdicts_of g.R.Rules.table l.net.state l.choice in
    record {
      from : l.fn.block.first ≤ l.place;
      judged : (taken : List ℕ) → AreOf all taken l.initial.verdicts.items → AreOf all (taken ++ range_with_len l.fn.block.first (l.place - l.fn.block.first)) l.verdicts.items;
      room : length l.verdicts.items + (l.place-end - l.place) ≤ vec_capacity l.verdicts;
      kept : vec_capacity l.initial.verdicts ≤ vec_capacity l.verdicts;
    }
