-- A move at a node as a step of the machine; and what a lost edge does to the node's own record.
use Rattle.std.specs.Prelude.{◌≡◌, ℕ, List, [], ◌∷◌, map, Option, None, is_some, if◌then◌else◌, IsTrue}
use Rattle.rule_machine.specs.declared.act.Moved.{Moved}
use Rattle.rule_machine.specs.declared.base.NodeRecord.{NodeRecord}
use Rattle.rule_machine.specs.declared.choice.Item.{Item}
use Rattle.rule_machine.specs.Base.{node_record_at}
use Rattle.rule_machine.specs.Network.{neighbours}
use Rattle.rule_machine.specs.State.{State, pointer, flag}
use Rattle.rule_machine.specs.RuleTable.{RuleTable}
use Rattle.rule_machine.specs.Step.{IsStep, after_moves}
use Rattle.local_rule.specs.declared.local_move.LocalMove.{LocalMove}
use Rattle.local_rule.specs.Faults.{own_fault}
use Rattle.local_rule.specs.Moves.{local_move, may_move_at}

-- v alone is chosen, without a wish
abbrev pub only : ℕ → List Item
only v = (record { node = v; wish = None }) ∷ []

abbrev pub only_move : ℕ → LocalMove → List Moved
only_move v m = (record { node = v; act = m.act; target = m.target }) ∷ []

-- the machine's step of v alone makes this move, and leaves v with these registers
pub record IsStepOf (t : RuleTable) (s : State) (v : ℕ) (m : LocalMove) : Type 0 where
  pub step : IsStep t s (only v) (only_move v m) (after_moves s (only_move v m))
  pub points : pointer (after_moves s (only_move v m)) v ≡ m.pointer
  pub flagged : flag (after_moves s (only_move v m)) v ≡ m.flag

-- the pointer, or null if it is at no neighbour
abbrev pub repaired_target : List NodeRecord → Option ℕ → Option ℕ
repaired_target around target = if is_some (own_fault around target) then None else target

abbrev pub repaired : NodeRecord → List NodeRecord → NodeRecord
repaired own around = record { node = own.node; target = repaired_target around own.target; flagged = own.flagged }

-- the records of v's neighbours in a state
abbrev pub records_around : State → ℕ → List NodeRecord
records_around s v = map (node_record_at s) (neighbours s.network v)

-- a move of a step is one that the machine allows at its node, and the step leaves the node with the registers
-- of this local move
pub record IsLocalIn (t : RuleTable) (s after : State) (m : Moved) : Type 0 where
  pub may : IsTrue (may_move_at t s m.node m.act m.target)
  pub points : pointer after m.node ≡ (local_move s m.node m.act m.target).pointer
  pub flagged : flag after m.node ≡ (local_move s m.node m.act m.target).flag
