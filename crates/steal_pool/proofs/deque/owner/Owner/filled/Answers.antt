use Rattle.steal_pool.proofs.Prelude.{ap, Ledger}
use Rattle.steal_pool.proofs.Balances.{begins, puts}
use Rattle.steal_pool.proofs.deque.owner.Owner.filled.Goals as goal

pub fifo_as-requires : goal.fifo_as-requires
fifo_as-requires c = begins

pub push_as-requires-clause-pushes : goal.push_as-requires-clause-pushes
push_as-requires-clause-pushes c = puts _ _ _ (ap (λ (v : Ledger). v.parts) c.loop-first.invariant.known) (ap (λ (v : Ledger). v.count) c.loop-first.invariant.known)
