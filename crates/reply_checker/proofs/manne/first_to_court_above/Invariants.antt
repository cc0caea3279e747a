use Rattle.reply_checker.proofs.Prelude.{◌≡◌, find, drop, ◌&&◌, nat_lt, may_court}
use Rattle.reply_checker.proofs.manne.first_to_court_above.Given as goal

abbrev pub invariant-loop-x : goal.invariant-loop-x
invariant-loop-x l = find (λ x. may_court l.net.state l.v x && nat_lt l.w x) l.x-items ≡ find (λ x. may_court l.net.state l.v x && nat_lt l.w x) (drop l.x-index l.x-items)
