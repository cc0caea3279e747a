use Rattle.steal_pool.proofs.Balances.{forks}
use Rattle.steal_pool.proofs.deque.owner.Owner.thief.Goals as goal

pub another-pass-requires : goal.another-pass-requires
another-pass-requires c = forks _ _ c.requires
