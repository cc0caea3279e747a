use Rattle.snapshots.proofs.Prelude.{◌+◌, ◌≤◌, ap, subst, arith, length, List, nat_tests, Mark}
use mathlib.Core.List.{IsPrefix}
use Rattle.snapshots.proofs.Fronts.{is_shown}
use Rattle.snapshots.proofs.history.HistoryPrefix.is_shown_at.Goals as goal

pub returns : goal.returns
returns c few =
    let xs = c.args.self.now.seen.log in
    let ys = c.args.other.now.seen.log in
    let both = c.learn.new.self.log in
    let this : IsPrefix xs both = subst (λ (l : List Mark). IsPrefix l both) (ap (λ s. s.log) c.again-both.ensures) c.learn.ensures.2 in
    let near : c.saturating_sub.result ≤ c.args.other.now.count = grind (arith, nat_tests, few) in
    let less : length xs ≤ length ys + 1 = omega (arith, near, c.saturating_sub.ensures, c.args.self.now.counted, c.args.other.now.counted) in
    is_shown xs ys both this c.learn.ensures.3 less
