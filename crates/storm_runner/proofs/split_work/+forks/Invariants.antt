use Rattle.std.proofs.Common.{◌+◌, ◌*◌, max, length}
use Rattle.storm_runner.proofs.split_work.+forks.Given as goal

abbrev pub decreases-play_halves-join_mut+arg2 : goal.decreases-play_halves-join_mut+arg2
decreases-play_halves-join_mut+arg2 g l = 4 * length l.left.now + 1

abbrev pub decreases-play_halves-join_mut+arg3 : goal.decreases-play_halves-join_mut+arg3
decreases-play_halves-join_mut+arg3 g l = 4 * length l.right.now + 1

abbrev pub decreases-play_all : goal.decreases-play_all
decreases-play_all g l = 4 * length l.scripts.now

abbrev pub decreases-play_halves : goal.decreases-play_halves
decreases-play_halves g l = 4 * max (length l.halves.now.left.now) (length l.halves.now.right.now) + 2
