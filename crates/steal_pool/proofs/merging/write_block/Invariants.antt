use Rattle.steal_pool.proofs.Prelude.{◌≡◌, ℕ, ◌+◌, ◌-◌, ◌≤◌, length, sum_by, range_with_len, verdicts_of, at_place, IsVerdictTable}
use Rattle.steal_pool.proofs.merging.write_block.Given as goal

abbrev pub invariant-loop-place : goal.invariant-loop-place
invariant-loop-place g l =
    let all = verdicts_of g.R.Rules.table l.net.state l.choice in
    record {
      from : l.fn.block.first ≤ l.place;
      size : length l.table ≡ length l.choice;
      right : (times : ℕ → ℕ) → IsVerdictTable all l.initial.table times → IsVerdictTable all l.table (λ k. times k + sum_by (at_place k) (range_with_len l.fn.block.first (l.place - l.fn.block.first)));
    }
