-- What is shown at a node (the registers of the node and of its neighbours), and the target that its rule
-- takes.
use Rattle.std.specs.Prelude.{ℕ, Option, None, Some, option_and_then, if◌then◌else◌, ◌≡◌, ◌⊎◌, IsTrue}
use Rattle.rule_machine.specs.declared.act.Act.{Act}
use Rattle.rule_machine.specs.State.{State, pointer, flag}
use Rattle.rule_machine.specs.RuleTable.{RuleTable, rule_at, least_target}
pub use Rattle.rule_machine.specs.Step.{takes_target}
use Rattle.rule_machine.specs.Network.{linked, neighbours}

-- w is v or a neighbour of v
abbrev pub IsNear : State → ℕ → ℕ → Type 0
IsNear s v w = (w ≡ v) ⊎ IsTrue (linked s.network v w)

-- the two states agree on the neighbours of v, and on the registers of v and of its neighbours
pub record SameAt (s u : State) (v : ℕ) : Type 0 where
  pub neighbours : neighbours s.network v ≡ neighbours u.network v
  pub linked : (w : ℕ) → linked s.network v w ≡ linked u.network v w
  pub pointers : (w : ℕ) → IsNear s v w → pointer s w ≡ pointer u w
  pub flags : (w : ℕ) → IsNear s v w → flag s w ≡ flag u w

-- With a wish: the wished target, or None if the rule does not allow that target. Without a wish: the
-- least allowed target, if there is one.
abbrev pub target_by : RuleTable → State → ℕ → Option ℕ → Act → Option (Option ℕ)
target_by t s v None act = Some (least_target t s v act)
target_by t s v (Some w) act = if t.allowed s v act w then Some (Some w) else None

-- the target of the rule that is enabled at v
abbrev pub target_at : RuleTable → State → ℕ → Option ℕ → Option (Option ℕ)
target_at t s v wish = option_and_then (target_by t s v wish) (rule_at t s v)
