-- Why workers judged nothing.
use Rattle.std.specs.Prelude.{◌≡◌, ℕ, zero, suc}
use Rattle.steal_pool.specs.declared.fault.PoolFault.{PoolFault}
use Rattle.steal_pool.specs.declared.fault.PoolFault.TheVariants.{ZeroWorkers, Memory}

-- the fault for this number of workers: `ZeroWorkers` if the number is 0, otherwise `Memory`
abbrev pub ExplainsPoolFault : ℕ → PoolFault → Type 0
ExplainsPoolFault zero fault = fault ≡ ZeroWorkers
ExplainsPoolFault (suc others) fault = fault ≡ Memory
