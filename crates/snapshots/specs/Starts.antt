-- The moment at which the entries of a board begin.
use Rattle.std.specs.Prelude.{◌≡◌, ℕ, false, Option, None, Some}
use Rattle.rule_machine.specs.declared.base.Base.{Base}
use Rattle.rule_machine.specs.Base.{base_of}
use Rattle.rule_machine.specs.State.{IsState, flag}
use Rattle.rule_machine.specs.RuleTable.{RuleTable}
use Rattle.rule_machine.specs.Run.{Moment, beginning_with}

-- A run with names up to `size` may begin at this base: `start` is a state with the base's moves, nodes and
-- edges. It is `IsBaseMoment` without the bound on the charge.
pub record IsStart (t : RuleTable) (size : ℕ) (base : Base) (start : Moment) : Type 0 where
  pub is_state : IsState start.state
  pub size_is : start.state.network.size ≡ size
  pub lines : base ≡ base_of base.number start
  pub unflagged : t.flags ≡ false → (v : ℕ) → flag start.state v ≡ false

-- The moment before a board's entries. Without a base: the beginning of a run with `size` names, the first
-- `first` of them present. With a base: the moment of that base.
abbrev pub StartsAt : RuleTable → ℕ → ℕ → Option Base → Moment → Type 0
StartsAt t size first None start = start ≡ beginning_with size first
StartsAt t size first (Some base) start = IsStart t size base start
