-- The enabled nodes of a state, and moments.
use Rattle.std.specs.Prelude.{◌≡◌, ℕ, ◌+◌, Bool, IfSome, IsTrue, List, length, Option, Some, None, is_some, option_map, if◌then◌else◌}
use Rattle.enabled_set.specs.Members.{is_in}
use Rattle.rule_machine.specs.declared.act.Act.{Act}
use Rattle.rule_machine.specs.Network.{present}
use Rattle.rule_machine.specs.State.{State, pointer, flag, married}
use Rattle.rule_machine.specs.Run.{Moment}
use Rattle.rule_machine.specs.RuleTable.{RuleTable, rule_at}

-- the rule enabled at a name, if any; none at an absent name
abbrev pub guard_at : RuleTable → State → ℕ → Option Act
guard_at t s v = if present s.network v then rule_at t s v else None

-- whether a rule is enabled at a name
abbrev pub is_enabled_at : RuleTable → State → ℕ → Bool
is_enabled_at t s v = is_some (guard_at t s v)

-- the set has a place for each name, and the set's members are the enabled nodes
pub record AreOn (t : RuleTable) (s : State) (bits : List Bool) : Type 0 where
  pub places : length bits ≡ s.network.size + 1
  pub each : (v : ℕ) → is_in bits v ≡ is_enabled_at t s v

-- v with the rule enabled at v, if any
abbrev pub marked_at : RuleTable → State → ℕ → Option (ℕ × Act)
marked_at t s v = option_map (λ act. (v, act)) (guard_at t s v)

-- every pointer is null or answered, and flags, if used, say whether their nodes are married
pub record IsAnswered (uses_flags : Bool) (s : State) : Type 0 where
  pub answered : (v : ℕ) → IfSome (pointer s v) (λ w. pointer s w ≡ Some v)
  pub flagged : IsTrue uses_flags → (v : ℕ) → IsTrue (present s.network v) → flag s v ≡ married s v

-- a state and the number of moves spent, as a moment
abbrev pub moment : State → ℕ → Moment
moment s spent = record { state = s; spent = spent }
