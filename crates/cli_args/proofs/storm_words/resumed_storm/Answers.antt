use Rattle.cli_args.proofs.Prelude.{rules, refl}
use Rattle.cli_args.proofs.StormReadings.{load_resumed}
use Rattle.cli_args.proofs.storm_words.resumed_storm.Goals as goal

pub returns-in_default-clause-read : goal.returns-in_default-clause-read
returns-in_default-clause-read c s h =
    (rw c.in_default.is at c.in_ok-load.ensures.read) (load_resumed s) (record { roamers_is = h.roamers_is; turns_is = h.turns_is; scripts_is = h.scripts_is })

pub returns-in_default-number-clause-read : goal.returns-in_default-number-clause-read
returns-in_default-number-clause-read c s h = c.in_default-number.ensures s.workers h.run_is.workers_is

pub returns-clause-read : goal.returns-clause-read
returns-clause-read c =
    let load = rw c.in-Some.is at c.in_ok-load.ensures.read in (
      refl,
      record {
        run_is = record {
          from_is = c.requires;
          rules_is = search rules;
          nodes_is = search rules;
          present_is = search rules;
          workers_is = c.in-Some-number.ensures;
        };
        roamers_is = load.roamers_is;
        turns_is = load.turns_is;
        scripts_is = load.scripts_is;
      },
    )
