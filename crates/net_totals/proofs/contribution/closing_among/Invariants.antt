use Rattle.net_totals.proofs.Prelude.{◌≡◌, ◌≤◌, ◌&&◌, count_by, take, points}
use Rattle.net_totals.proofs.contribution.closing_among.Given as goal

-- what was counted so far
abbrev pub invariant-loop-w : goal.invariant-loop-w
invariant-loop-w g l = record {
  count : l.closing ≡ count_by (λ v. points l.index.state.registers v l.node.node && g.R.Rules.closes l.index.state v) (take l.w-index l.w-items);
  few : l.closing ≤ l.w-index;
}
