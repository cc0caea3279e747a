use Rattle.locked_net.proofs.Prelude.{refl, subst, All, take_all, All-more, ClerkView, noted}
use mathlib.Core.List.{IsPrefix}
use Rattle.locked_net.proofs.ending.all_begin.Goals as goal

pub loop-clerk-preserved : goal.loop-clerk-preserved
loop-clerk-preserved c =
    let Begins = λ (clerk : ClerkView). IsPrefix (noted clerk.note) c.args.last.now.log in
    All-more Begins c.args.clerks.now c.loop-clerk.clerk-index c.clerk-item.result c.loop-clerk-test.true c.loop-clerk.invariant (subst Begins c.clerk-item.is (c.if-not-begins.ensures.yes refl))

pub returns : goal.returns
returns c =
    let Begins = λ (clerk : ClerkView). IsPrefix (noted clerk.note) c.args.last.now.log in
    record { yes = λ _. subst (All Begins) (take_all c.loop-clerk.clerk-index c.args.clerks.now c.loop-clerk-test.false) c.loop-clerk.invariant }
