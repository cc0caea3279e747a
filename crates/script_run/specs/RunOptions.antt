-- The options of a run.
use Rattle.std.specs.Prelude.{ℕ}
use Rattle.rule_machine.specs.declared.rule_set.RuleSet.{RuleSet}
use Rattle.script_run.specs.declared.options.Options.{Options}

-- the rule set, how many names there are, how many nodes are present at the start, the limit of entries, the
-- workers for a step, and the roaming workers with their turns
pub record OptionsView : Type 0 where
  pub rules : RuleSet
  pub nodes : ℕ
  pub present : ℕ
  pub limit : ℕ
  pub workers : ℕ
  pub roamers : ℕ
  pub turns : ℕ

abbrev pub asked_of : Options → OptionsView
asked_of o =
    record { rules = o.rules; nodes = o.nodes; present = o.present; limit = o.limit; workers = o.workers; roamers = o.roamers; turns = o.turns }

-- all names are present, and all other options have their defaults
abbrev pub usual : RuleSet → ℕ → OptionsView
usual rules nodes = record { rules = rules; nodes = nodes; present = nodes; limit = 16777216; workers = 1; roamers = 0; turns = 1000 }
