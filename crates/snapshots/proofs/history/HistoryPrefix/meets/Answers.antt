use Rattle.snapshots.proofs.Prelude.{ap, subst, arith, List, Mark}
use mathlib.Core.List.{IsPrefix}
use Rattle.snapshots.proofs.Fronts.{one_origin}
use Rattle.snapshots.proofs.OneLog.{told_and_shown, both_told, both_shown}
use Rattle.snapshots.proofs.history.HistoryPrefix.meets.Goals as goal

pub returns : goal.returns
returns c =
    let this = subst (λ (l : List Mark). IsPrefix l c.learn.new.self.log) (ap (λ s. s.log) c.again-both.ensures) c.learn.ensures.2 in
    let that = c.learn.ensures.3 in
    record {
      published = both_told _ _ _ this that;
      shown = both_shown _ _ _ this that;
      both = told_and_shown _ _ _ this that;
      origin = one_origin _ _ _ this that (omega (arith, c.args.self.now.counted)) (omega (arith, c.args.other.now.counted));
    }
