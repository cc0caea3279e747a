-- The rule sets by name.
use Rattle.std.specs.Prelude.{ℕ, List, codes}
use Rattle.rule_machine.specs.declared.rule_set.RuleSet.{RuleSet}
use Rattle.rule_machine.specs.declared.rule_set.RuleSet.TheVariants.{Hh, Manne}
use Rattle.rule_machine.specs.RuleTable.{RuleTable}
use Rattle.rule_machine.specs.HsuHuang.{hsu_huang}
use Rattle.rule_machine.specs.Manne.{manne}

abbrev pub table_of : RuleSet → RuleTable
table_of Hh = hsu_huang
table_of Manne = manne

-- how much each node adds to a rule set's bound on moves
abbrev pub weight_of : RuleSet → ℕ
weight_of Hh = 1
weight_of Manne = 3

-- the word for a rule set, on a command line and in a transcript's header
abbrev pub rules_word : RuleSet → List ℕ
rules_word Hh = codes "hh"
rules_word Manne = codes "manne"
