use Rattle.storm_runner.proofs.Prelude.{◌≡◌, vec_len, All, fresh}
use Rattle.storm_runner.proofs.run.clerks_of.Given as goal

abbrev pub invariant-loop : goal.invariant-loop
invariant-loop g l = record { count : vec_len l.clerks ≡ l.counter; fresh : All (λ clerk. clerk ≡ fresh) l.clerks.items }
