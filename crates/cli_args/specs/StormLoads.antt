-- What a storm plays, on whichever network.
use Rattle.std.specs.Prelude.{◌≡◌, ℕ, ◌^◌, List, Some, map, codes}
use Rattle.clap.specs.Words.{Row, Text, all_of}
use Rattle.cli_args.specs.TaskWords.{GivesNumber}
use Rattle.cli_args.specs.declared.storm_words.StormLoad.{StormLoad}

-- roaming workers, their turns, and script files
pub record Load : Type 0 where
  pub roamers : ℕ
  pub turns : ℕ
  pub scripts : List Text

abbrev pub load_of : StormLoad → Load
load_of load = record { roamers = load.roamers; turns = load.turns; scripts = map (λ s. s.now) load.scripts.items }

-- the values of `storm` give this load
pub record HoldsLoad (found : List Row) (load : Load) : Type 0 where
  pub roamers_is : GivesNumber (2 ^ 16) (codes "roam") found load.roamers
  pub turns_is : GivesNumber (2 ^ 32) (codes "turns") found load.turns
  pub scripts_is : all_of (codes "SCRIPT") found ≡ Some load.scripts
