use Rattle.std.proofs.Common.{◌+◌, ◌*◌, max, length}
use Rattle.locked_net.proofs.roaming.+forks.Given as goal

abbrev pub decreases-roam_halves-join_mut+arg2 : goal.decreases-roam_halves-join_mut+arg2
decreases-roam_halves-join_mut+arg2 g l = 4 * length l.ours.now + 1

abbrev pub decreases-roam_halves-join_mut+arg3 : goal.decreases-roam_halves-join_mut+arg3
decreases-roam_halves-join_mut+arg3 g l = 4 * length l.theirs.now + 1

abbrev pub decreases-roam_all : goal.decreases-roam_all
decreases-roam_all g l = 4 * length l.clerks.now

abbrev pub decreases-roam_halves : goal.decreases-roam_halves
decreases-roam_halves g l = 4 * max (length l.ours.now) (length l.theirs.now) + 2
