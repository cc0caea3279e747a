use Rattle.net_state.proofs.Prelude.{◌≡◌, ◌≤◌, count_by, take, are_open, end_at}
use Rattle.net_state.proofs.open_edges.open_to.Given as goal

-- what was counted so far
abbrev pub invariant-loop-w : goal.invariant-loop-w
invariant-loop-w l = record {
  count : l.count ≡ count_by (λ w. are_open l.end (end_at l.ends w)) (take l.w-index l.row);
  few : l.count ≤ l.w-index;
}
