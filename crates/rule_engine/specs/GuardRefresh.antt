-- The set of enabled nodes after some nodes were looked at again; the guards that a write at a node may
-- change.
use Rattle.std.specs.Prelude.{◌≡◌, ℕ, Bool, ◌&&◌, ◌||◌, List, Option, is_none, length, nat_eq, if◌then◌else◌}
use Rattle.enabled_set.specs.Members.{is_in}
use Rattle.rule_machine.specs.Network.{linked}
use Rattle.rule_machine.specs.State.{State, pointer, points, is_at}
use Rattle.rule_machine.specs.RuleTable.{RuleTable}
use Rattle.suitor_index.specs.TurnedGuards.{may_turn}
use Rattle.rule_engine.specs.EngineStates.{is_enabled_at}

-- whether w is a neighbour of v and points at v
abbrev pub is_suitor : State → ℕ → ℕ → Bool
is_suitor s v w = linked s.network v w && points s.registers w v

-- whether w is the target of a pointer and itself points nowhere
abbrev pub is_null_target : State → Option ℕ → ℕ → Bool
is_null_target s target w = is_at target w && is_none (pointer s w)

-- whether a write of v's registers may change the guard of w; `turned`: a neighbour's guard may have turned
-- with v. A pointer's old and new target also count, each if it points nowhere: see is_null_target.
abbrev pub may_change_guard : Bool → (Option ℕ → Bool → Bool) → State → ℕ → Bool → ℕ → Bool
may_change_guard above opens s v turned w = (nat_eq w v || is_suitor s v w) || (turned && may_turn above opens s v w)

-- each name that was looked at is a member exactly if a rule is enabled there; all other names stay as they
-- were
pub record IsRefreshed (t : RuleTable) (s : State) (looked : ℕ → Bool) (before after : List Bool) : Type 0 where
  pub places : length after ≡ length before
  pub each : (w : ℕ) → is_in after w ≡ (if looked w then is_enabled_at t s w else is_in before w)
