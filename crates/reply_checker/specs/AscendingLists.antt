-- Lists of facts about names, by ascending names.
use Rattle.std.specs.Prelude.{◌≡◌, ℕ, ◌<◌, List, [], ◌∷◌, Option, None, Some, cond}
use Rattle.std.specs.Option.{option_map}
use Rattle.rule_machine.specs.declared.act.Act.{Act}
use Rattle.rule_machine.specs.Network.{present}
use Rattle.rule_machine.specs.State.{State, partner}
use Rattle.rule_machine.specs.Stable.{pair_above}
use Rattle.rule_machine.specs.RuleTable.{RuleTable, rule_at}

-- each item is the value of f at the item's name; the names ascend, and all are above n
abbrev pub AreRising : {Y : Type 0} → (ℕ → Option (ℕ × Y)) → ℕ → List (ℕ × Y) → Type 0
AreRising f n [] = Unit {0}
AreRising f n (p ∷ items) = (n < p.0) × (f p.0 ≡ Some p) × AreRising f p.0 items

-- the mutual pair whose lower end is v, if any
abbrev pub lower_end_pair : State → ℕ → Option (ℕ × ℕ)
lower_end_pair s v = cond (present s.network v) (pair_above v (partner s v)) None

-- v with the rule that is enabled at v, if any
abbrev pub ruled_node : RuleTable → State → ℕ → Option (ℕ × Act)
ruled_node t s v = option_map (λ act. (v, act)) (cond (present s.network v) (rule_at t s v) None)
