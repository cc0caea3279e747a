use Rattle.cli_args.proofs.Prelude.{refl}
use Rattle.cli_args.proofs.StormReadings.{load_asked}
use Rattle.cli_args.proofs.storm_words.fresh_storm.Goals as goal

pub returns-in_default-clause-read : goal.returns-in_default-clause-read
returns-in_default-clause-read c s h = c.in_default.ensures s.rules s.nodes s.present s.workers h.run_is

pub returns-in_default-2-clause-read : goal.returns-in_default-2-clause-read
returns-in_default-2-clause-read c s h = (rw c.in_default-2.is at c.in_ok-load.ensures.read) (load_asked s) (record { roamers_is = h.roamers_is; turns_is = h.turns_is; scripts_is = h.scripts_is })

pub returns-clause-read : goal.returns-clause-read
returns-clause-read c =
    let load = rw c.in-Some-2.is at c.in_ok-load.ensures.read in
    (refl, record { from_is = c.requires; run_is = c.in-Some.ensures; roamers_is = load.roamers_is; turns_is = load.turns_is; scripts_is = load.scripts_is })
