use Rattle.script_run.proofs.script.run.Goals as goal

pub returns-in-Hh-clause-outcome : goal.returns-in-Hh-clause-outcome
returns-in-Hh-clause-outcome g c = rw (← c.in-Hh.ensures) (rw (← c.in-Hh.ensures) at c.run_on.ensures.outcome)

pub returns-in-Manne-clause-outcome : goal.returns-in-Manne-clause-outcome
returns-in-Manne-clause-outcome g c = rw (← c.in-Manne.ensures) (rw (← c.in-Manne.ensures) at c.run_on-in-Manne.ensures.outcome)
