use Rattle.std.proofs.Common.{◌≡◌, ℕ, ◌<◌, ◌≤◌, ◌+◌, get_or}
use Rattle.graph_store.proofs.rows.drop_first.Given as goal

-- those before the index have moved one place down, and the others have not moved
abbrev pub invariant-loop-at : goal.invariant-loop-at
invariant-loop-at l = record {
  moved : (k : ℕ) → k + 1 < l.at → get_or l.tail k 0 ≡ get_or l.fn.tail (k + 1) 0;
  kept : (k : ℕ) → l.at ≤ k → get_or l.tail k 0 ≡ get_or l.fn.tail k 0;
}
