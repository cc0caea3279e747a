use Rattle.storm_runner.proofs.storming.storm.Goals as goal

pub returns-in-Hh-clause-outcome : goal.returns-in-Hh-clause-outcome
returns-in-Hh-clause-outcome g c = rw (← c.in-Hh.ensures) (rw (← c.in-Hh.ensures) at c.storm_on.ensures.outcome)

pub returns-in-Manne-clause-outcome : goal.returns-in-Manne-clause-outcome
returns-in-Manne-clause-outcome g c = rw (← c.in-Manne.ensures) (rw (← c.in-Manne.ensures) at c.storm_on-in-Manne.ensures.outcome)
