use Rattle.reply_checker.proofs.Prelude.{◌≡◌, find, drop, suits}
use Rattle.reply_checker.proofs.reads.first_suitor.Given as goal

abbrev pub invariant-loop-w : goal.invariant-loop-w
invariant-loop-w l = find (suits l.net.state l.v) l.w-items ≡ find (suits l.net.state l.v) (drop l.w-index l.w-items)
