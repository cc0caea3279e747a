use Rattle.std.proofs.Common.{length, ◌-◌, ◌≤◌}
use Rattle.line_reasons.proofs.meant.same_letters.Given as goal

abbrev pub invariant-loop-len : goal.invariant-loop-len
invariant-loop-len l = (l.len ≤ length l.one) × (l.len ≤ length l.other)

abbrev pub decreases-loop-len : goal.decreases-loop-len
decreases-loop-len l = length l.one - l.len
