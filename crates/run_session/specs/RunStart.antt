-- The beginning of every run.
use Rattle.std.specs.Prelude.{ℕ, None}
use Rattle.rule_machine.specs.declared.rule_set.RuleSet.{RuleSet}
use Rattle.rule_machine.specs.Run as run
use Rattle.line_text.specs.EntryText.{header_line}
use Rattle.script_text.specs.Script.{Progress}

-- the opening state of these names, of which the first are present; no move, no entry, the header as text, and
-- no rounds counted
abbrev pub first_progress : RuleSet → ℕ → ℕ → Progress
first_progress rules nodes present =
    record { rules = rules; moment = run.beginning_with nodes present; count = 0; text = header_line rules nodes present; counting = None }
