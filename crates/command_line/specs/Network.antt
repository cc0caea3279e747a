-- The options that the words for a network or a storm give a run.
use Rattle.std.specs.Prelude.{ℕ, max, min}
use Rattle.rule_machine.specs.declared.rule_set.RuleSet.{RuleSet}
use Rattle.script_run.specs.RunOptions.{OptionsView, usual}
use Rattle.cli_args.specs.TaskWords.{Storm}

-- the default options, with this many nodes at the start and this many workers
abbrev pub asked_network : RuleSet → ℕ → ℕ → ℕ → OptionsView
asked_network rules nodes present workers =
    record (usual rules nodes) { present = present; workers = min (max workers 1) 64 }

-- the options of a storm: those of a network, with the storm's roaming workers
abbrev pub asked_storm : Storm → ℕ → OptionsView
asked_storm storm present =
    record (asked_network storm.rules storm.nodes present storm.workers) { roamers = min storm.roamers 64; turns = min storm.turns 1000000 }
