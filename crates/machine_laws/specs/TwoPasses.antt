-- A step may be written in two passes: first all flags, read from the pointers before the step, then all
-- pointers.
use Rattle.std.specs.Prelude.{◌≡◌, ℕ, Bool, Option, None, Some, IsTrue}
use Rattle.rule_machine.specs.declared.act.Act.{Act}
use Rattle.rule_machine.specs.declared.act.Act.TheVariants.{Update, Abandon}
use Rattle.rule_machine.specs.declared.act.Moved.{Moved}
use Rattle.rule_machine.specs.Network.{Network, linked, present}
use Rattle.rule_machine.specs.State.{Registers, pointer_of, with_pointer, with_flag, holds_at, points}

-- a move of a node that is present, to a neighbour if it has a target
pub record IsMoveIn (net : Network) (m : Moved) : Type 0 where
  pub has : IsTrue (present net m.node)
  pub near : (x : ℕ) → m.target ≡ Some x → IsTrue (linked net m.node x)

-- whether the node that v points at points back
abbrev pub is_answered_at : Registers → ℕ → Bool
is_answered_at r v = holds_at (λ w. points r w v) (pointer_of r v)

-- the registers after a move's flag, computed from these registers, is written
abbrev pub flag_read_by : Registers → ℕ → Act → Registers
flag_read_by r v Update = with_flag r v (is_answered_at r v)
flag_read_by r v act = r

abbrev pub flag_read : Registers → Moved → Registers
flag_read r m = flag_read_by r m.node m.act

-- the registers after a move's pointer is written
abbrev pub pointer_by : Registers → ℕ → Act → Option ℕ → Registers
pointer_by r v Update target = r
pointer_by r v Abandon target = with_pointer r v None
pointer_by r v act target = with_pointer r v target

abbrev pub pointer_written : Registers → Moved → Registers
pointer_written r m = pointer_by r m.node m.act m.target
