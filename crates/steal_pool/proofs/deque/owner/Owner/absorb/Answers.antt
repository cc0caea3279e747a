use Rattle.steal_pool.proofs.Balances.{merges}
use Rattle.steal_pool.proofs.deque.owner.Owner.absorb.Goals as goal

pub absorb-requires-clause-rule : goal.absorb-requires-clause-rule
absorb-requires-clause-rule c = merges _ _ _ _ c.args.self.now.has_part
