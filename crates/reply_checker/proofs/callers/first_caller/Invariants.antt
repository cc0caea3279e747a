use Rattle.reply_checker.proofs.Prelude.{◌≡◌, false, take, list_any, calls_by}
use Rattle.reply_checker.proofs.callers.first_caller.Given as goal

abbrev pub invariant-loop-at : goal.invariant-loop-at
invariant-loop-at l = list_any (calls_by l.rules l.net.state l.v) (take l.at l.row) ≡ false
