use Rattle.snapshots.proofs.Prelude.{◌≤◌, ap, subst, arith, length, List, nat_tests, Mark}
use mathlib.Core.List.{IsPrefix}
use Rattle.snapshots.proofs.Fronts.{prefix_shorter}
use Rattle.snapshots.proofs.history.HistoryPrefix.begins.Goals as goal

pub returns : goal.returns
returns c =
    let xs = c.args.self.now.seen.log in
    let ys = c.args.other.now.seen.log in
    let both = c.learn.new.self.log in
    let this : IsPrefix xs both = subst (λ (l : List Mark). IsPrefix l both) (ap (λ s. s.log) c.again-both.ensures) c.learn.ensures.2 in
    record {
      yes = λ few.
          let near : c.args.self.now.count ≤ c.args.other.now.count = grind (arith, nat_tests, few) in
          let less : length xs ≤ length ys = omega (arith, near, c.args.self.now.counted, c.args.other.now.counted) in
          prefix_shorter xs ys both this c.learn.ensures.3 less;
      no = λ more.
          let near : c.args.other.now.count ≤ c.args.self.now.count = grind (arith, nat_tests, more) in
          let less : length ys ≤ length xs = omega (arith, near, c.args.self.now.counted, c.args.other.now.counted) in
          prefix_shorter ys xs both c.learn.ensures.3 this less;
    }
