use Rattle.cli_args.proofs.Prelude.{◌∙◌, sym, codes, found_of, first_value-rows, rows_of}
use Rattle.cli_args.proofs.StormReadings.{none_fresh, none_resumed}
use Rattle.cli_args.proofs.storm_words.storm_task.Goals as goal

pub resumed_storm-requires : goal.resumed_storm-requires
resumed_storm-requires c = sym (first_value-rows (found_of c.args.storm.now) (codes "from")) ∙ sym c.in-Some.ensures

pub fresh_storm-requires : goal.fresh_storm-requires
fresh_storm-requires c = sym (first_value-rows (found_of c.args.storm.now) (codes "from")) ∙ sym c.in-None.ensures

pub returns-in-Some-clause-read : goal.returns-in-Some-clause-read
returns-in-Some-clause-read c = none_resumed (rows_of (found_of c.args.storm.now)) c.in-Some.from.now c.resumed_storm.result (sym (first_value-rows (found_of c.args.storm.now) (codes "from")) ∙ sym c.in-Some.ensures) c.resumed_storm.ensures.read

pub returns-in-None-clause-read : goal.returns-in-None-clause-read
returns-in-None-clause-read c = none_fresh (rows_of (found_of c.args.storm.now)) c.fresh_storm.result (sym (first_value-rows (found_of c.args.storm.now) (codes "from")) ∙ sym c.in-None.ensures) c.fresh_storm.ensures.read
