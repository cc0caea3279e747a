-- After a drive of as many turns as the charge, no node is enabled.
use Rattle.std.specs.Prelude.{◌≡◌, ℕ, ◌≤◌, [], List}
use Rattle.rule_machine.specs.RuleTable.{RuleTable, enabled_names}
use Rattle.rule_machine.specs.State.{State}
use Rattle.script_text.specs.declared.command.Command.{Command}
use Rattle.script_text.specs.declared.command.Command.TheVariants.{Drive}
use Rattle.script_text.specs.declared.command.Turns.{Turns}
use Rattle.script_text.specs.Command.{Says}

-- a `drive` of at least as many turns as the charge leaves no node enabled
abbrev pub Silences : RuleTable → Command → State → State → Type 0
Silences t (Drive turns) before after = t.charge before ≤ turns.count → enabled_names t after ≡ []
Silences t other before after = Unit {0}

-- the line of a `drive` of at least as many turns as the charge leaves no node enabled
abbrev pub LineSilences : RuleTable → List ℕ → State → State → Type 0
LineSilences t line before after = (turns : Turns) → Says line (Drive turns) → t.charge before ≤ turns.count → enabled_names t after ≡ []
