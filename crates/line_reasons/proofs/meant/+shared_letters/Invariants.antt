use Rattle.std.proofs.Common.{length}
use Rattle.line_reasons.proofs.meant.+shared_letters.Given as goal

abbrev pub decreases-shared_letters : goal.decreases-shared_letters
decreases-shared_letters l = length l.one.now
