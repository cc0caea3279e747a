use Rattle.steal_pool.proofs.Prelude.{ℕ, ◌≤◌, length, ap, subst, arith, view, Ledger}
use Rattle.steal_pool.proofs.Balances.{takes, found_few, within}
use Rattle.steal_pool.proofs.deque.thief.Thief.take.Goals as goal

pub steal_as-requires-clause-takes : goal.steal_as-requires-clause-takes
steal_as-requires-clause-takes g c = takes _ _ c.loop.self.has_part

pub steal_as-requires-clause-empty : goal.steal_as-requires-clause-empty
steal_as-requires-clause-empty g c = let front = c.loop.self.in_order in found_few _ _ _ (omega arith)

pub returns-in-Success-clause-within : goal.returns-in-Success-clause-within
returns-in-Success-clause-within g c =
    let here = c.in-Success.ensures.rule in
    subst (λ (n : ℕ). (c.in-Success.block.end ≤ n) × (length (view c.steal_as.new.pass).taken ≤ n)) (ap (λ (v : Ledger). v.count) c.loop.invariant.1)
    (within (view c.loop.self.pass).count c.in-Success.block (view c.loop.self.pass).taken (view c.steal_as.new.pass).taken (ap (λ (v : Ledger). v.taken) here.0) here.1)
