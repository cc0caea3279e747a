use Rattle.std.proofs.Common.{length, ◌+◌, ◌≤◌}
use Rattle.line_reasons.proofs.meant.longest_from.Given as goal

abbrev pub invariant-loop-at : goal.invariant-loop-at
invariant-loop-at l = (l.longest.from + l.longest.len ≤ length l.one) × (l.longest.at + l.longest.len ≤ length l.other)
