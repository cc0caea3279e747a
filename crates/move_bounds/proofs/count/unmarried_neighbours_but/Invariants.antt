use Rattle.std.proofs.Common.{◌≡◌, ◌≤◌, count_by, take}
use Rattle.silence_laws.specs.Costs.{is_single_but}
use Rattle.move_bounds.proofs.count.unmarried_neighbours_but.Given as goal

-- what was counted so far
abbrev pub invariant-loop-w : goal.invariant-loop-w
invariant-loop-w l = record {
  count : l.count ≡ count_by (is_single_but l.net.state l.but) (take l.w-index l.w-items);
  few : l.count ≤ l.w-index;
}
