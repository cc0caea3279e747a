use Rattle.cli_args.proofs.Prelude.{rules, found_of}
use Rattle.cli_args.proofs.StormReadings.{no_scripts, scripts_are}
use Rattle.cli_args.proofs.storm_words.load.Goals as goal

pub returns-in_default-clause-read : goal.returns-in_default-clause-read
returns-in_default-clause-read c load h = c.in_default.ensures load.roamers h.roamers_is

pub returns-in_default-turns-clause-read : goal.returns-in_default-turns-clause-read
returns-in_default-turns-clause-read c load h = c.in_default-turns.ensures load.turns h.turns_is

pub returns-in_default-get_strs-clause-read : goal.returns-in_default-get_strs-clause-read
returns-in_default-get_strs-clause-read c load h = no_scripts (found_of c.args.storm.now) load c.in_default-get_strs.ensures h

pub returns-clause-read : goal.returns-clause-read
returns-clause-read c = record {
  roamers_is = c.in-Some.ensures;
  turns_is = c.in-Some-turns.ensures;
  scripts_is = scripts_are (found_of c.args.storm.now) c.in-Some-get_strs.given.now c.extend_from_slice.new.self.items c.in-Some-get_strs.ensures (search rules);
}
