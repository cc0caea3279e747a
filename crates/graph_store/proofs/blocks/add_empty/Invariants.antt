use Rattle.graph_store.proofs.Prelude.{◌≡◌, ℕ, ◌<◌, ◌≤◌, length, contents, row_at, spare_at}
use Rattle.graph_store.proofs.blocks.add_empty.Given as goal

abbrev pub invariant-loop : goal.invariant-loop
invariant-loop l = record {
  kept : (v : ℕ) → v < length l.fn.long.items → (row_at (contents l.long.items) v ≡ row_at (contents l.fn.long.items) v) × (spare_at l.long.items v ≡ spare_at l.fn.long.items v);
  longer : length l.fn.long.items ≤ length l.long.items;
  reached : l.counter ≤ length l.long.items;
}
