use Rattle.std.proofs.Common.{◌+◌, ◌*◌, length}
use Rattle.steal_pool.proofs.evaluation.+work.Given as goal

abbrev pub decreases-join+arg2 : goal.decreases-join+arg2
decreases-join+arg2 g l = 2 * length l.low.items + 1

abbrev pub decreases-join+arg3 : goal.decreases-join+arg3
decreases-join+arg3 g l = 2 * length l.high.items + 1

abbrev pub decreases-work_all : goal.decreases-work_all
decreases-work_all g l = 2 * length l.low.items
