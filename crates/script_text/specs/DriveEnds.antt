-- The states to which the turns of a seeded daemon lead.
use Rattle.std.specs.Prelude.{ℕ, zero, suc, List, Option, None, Some}
use Rattle.rand_core.specs.Stream.{Stream}
use Rattle.rule_machine.specs.declared.choice.Item.{Item}
use Rattle.rule_machine.specs.declared.event.Event.TheVariants.{Step}
use Rattle.rule_machine.specs.State.{State}
use Rattle.rule_machine.specs.RuleTable.{RuleTable, enabled_names}
use Rattle.rule_machine.specs.Least.{state_after}
use Rattle.daemon.specs.DrawnChoices.{choice_drawn}

-- the state after a step of the chosen nodes; the same state if there is no choice
abbrev pub after_turn : RuleTable → State → Option (List Item) → State
after_turn t s None = s
after_turn t s (Some items) = state_after t s (Step items)

-- the state after this many turns, each of which draws a choice among the enabled nodes
abbrev pub driven : RuleTable → ℕ → Stream → State → State
driven t zero stream s = s
driven t (suc turns) stream s =
    driven t turns (choice_drawn t.central (enabled_names t s) stream).1 (after_turn t s (choice_drawn t.central (enabled_names t s) stream).0)
