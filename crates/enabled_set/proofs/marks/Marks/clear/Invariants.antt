use Rattle.enabled_set.proofs.Prelude.{◌≡◌, length, members}
use Rattle.enabled_set.proofs.marks.Marks.clear.Given as goal

abbrev pub invariant-loop : goal.invariant-loop
invariant-loop l = record { places : length l.self ≡ length l.fn.self }

abbrev pub decreases-loop : goal.decreases-loop
decreases-loop l = length (members l.self)
