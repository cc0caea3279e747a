use Rattle.std.proofs.Common.{length, ◌+◌, ◌≤◌}
use Rattle.line_reasons.proofs.meant.longest_common.Given as goal

abbrev pub invariant-loop-from : goal.invariant-loop-from
invariant-loop-from l = (l.longest.from + l.longest.len ≤ length l.one) × (l.longest.at + l.longest.len ≤ length l.other)
