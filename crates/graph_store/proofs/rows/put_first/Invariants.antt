use Rattle.std.proofs.Common.{◌≡◌, ℕ, ◌<◌, ◌≤◌, get_or}
use Rattle.std.specs.Prelude.{◌-◌}
use Rattle.graph_store.proofs.rows.put_first.Given as goal

-- those moved are one place higher, and the others have not moved
abbrev pub invariant-loop-moved : goal.invariant-loop-moved
invariant-loop-moved l = record {
  moved : (k : ℕ) → l.last - l.moved < k → k ≤ l.last → get_or l.tail k 0 ≡ get_or l.fn.tail (k - 1) 0;
  kept : (k : ℕ) → k ≤ l.last - l.moved → get_or l.tail k 0 ≡ get_or l.fn.tail k 0;
}
