use Rattle.steal_pool.proofs.Balances.{takes, found, taken_within}
use Rattle.steal_pool.proofs.deque.owner.Owner.take.Goals as goal

pub pop_as-requires-clause-fifo : goal.pop_as-requires-clause-fifo
pop_as-requires-clause-fifo c = λ _. takes _ _ c.args.self.now.has_part

pub pop_as-requires-clause-empty : goal.pop_as-requires-clause-empty
pop_as-requires-clause-empty c = found _ _

pub returns-clause-within : goal.returns-clause-within
returns-clause-within c = taken_within _ _ _ _ c.pop_as.ensures.rule
