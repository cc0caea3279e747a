use Rattle.enabled_set.proofs.MarkChanges.{one_fewer}
use Rattle.enabled_set.proofs.marks.Marks.clear.Goals as goal

pub loop-smaller : goal.loop-smaller
loop-smaller c = one_fewer c.loop.self c.take.new.self c.in-Some.field-0 c.in-Some.ensures.some c.in-Some.ensures.taken
