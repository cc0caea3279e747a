use Rattle.rule_machine.specs.declared.rule_set.RuleSet.TheVariants.{Hh, Manne}
use Rattle.storm_runner.proofs.StormResults.{resumed}
use Rattle.storm_runner.proofs.storming.resume_storm.Goals as goal

pub returns-in-Hh-clause-outcome : goal.returns-in-Hh-clause-outcome
returns-in-Hh-clause-outcome g c = resumed c.args.restart _ Hh _ _ _ _ c.in-Hh.is c.options-options.ensures c.storm_on.ensures.outcome

pub returns-in-Manne-clause-outcome : goal.returns-in-Manne-clause-outcome
returns-in-Manne-clause-outcome g c = resumed c.args.restart _ Manne _ _ _ _ c.in-Manne.is c.options-options.ensures c.storm_on-in-Manne.ensures.outcome
