-- Which neighbours call a node. A rule is enabled at a node with a null pointer if a neighbour calls it.
use Rattle.std.specs.Prelude.{ℕ, Bool, ◌||◌, is_none}
use Rattle.rule_machine.specs.declared.rule_set.RuleSet.{RuleSet}
use Rattle.rule_machine.specs.declared.rule_set.RuleSet.TheVariants.{Hh, Manne}
use Rattle.rule_machine.specs.Manne.{may_court}
use Rattle.rule_machine.specs.State.{State, pointer, suits}

-- whether w points at v or has a null pointer
abbrev pub hsu_huang_calls : State → ℕ → ℕ → Bool
hsu_huang_calls s v w = suits s v w || is_none (pointer s w)

-- whether w points at v or v may court it
abbrev pub manne_calls : State → ℕ → ℕ → Bool
manne_calls s v w = suits s v w || may_court s v w

abbrev pub calls_by : RuleSet → State → ℕ → ℕ → Bool
calls_by Hh s v = hsu_huang_calls s v
calls_by Manne s v = manne_calls s v
