use Rattle.steal_pool.proofs.Prelude.{ap, arith, Ledger}
use Rattle.steal_pool.proofs.Joinings.{made_all, made_fresh}
use Rattle.steal_pool.proofs.deque.end.ends.Goals as goal

pub returns-clause-all : goal.returns-clause-all
returns-clause-all c =
    let loop = c.loop-made.invariant in
    made_all _ c.loop-made.made c.loop-made.owner c.loop-made.ends.items c.push-2.new.self.items loop.parts loop.size (omega arith) loop.known c.in_ok-push-2.ensures.items

pub returns-clause-fresh : goal.returns-clause-fresh
returns-clause-fresh c =
    let loop = c.loop-made.invariant in
    made_fresh _ _ c.loop-made.owner c.loop-made.ends.items c.push-2.new.self.items loop.parts (ap (λ (v : Ledger). v.taken) loop.known) c.in_ok-push-2.ensures.items
