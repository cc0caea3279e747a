use Rattle.std.proofs.Common.{drop}
use Rattle.reply_checker.proofs.AskingNeighbours.{AreAskingBut}
use Rattle.reply_checker.proofs.totals.mark_around.Given as goal

abbrev pub invariant-loop-w : goal.invariant-loop-w
invariant-loop-w l = AreAskingBut l.net.state l.v l.fn.due l.due (drop l.w-index l.w-items)
