-- The machine's move at a node, with the registers that it writes there.
use Rattle.std.specs.Prelude.{◌≡◌, ℕ, Bool, List, Option, None}
use Rattle.std.specs.Option.{option_map}
use Rattle.rule_machine.specs.declared.act.Act.{Act}
use Rattle.rule_machine.specs.declared.act.Act.TheVariants.{Update, Marry, Seduce, Abandon}
use Rattle.rule_machine.specs.declared.base.NodeRecord.{NodeRecord}
use Rattle.rule_machine.specs.State.{State, IsState, pointer_of, flag_of}
use Rattle.rule_machine.specs.RuleTable.{RuleTable, rule_at, least_target}
use Rattle.rule_machine.specs.Step.{written}
use Rattle.rule_machine.specs.Target.{SameAt}
use Rattle.machine_laws.specs.MoveTests.{is_move_of}
use Rattle.local_rule.specs.Looks.{answered_among}
use Rattle.local_rule.specs.declared.local_move.LocalMove.{LocalMove}

-- a move of v by the rule to the target, with v's registers after it
abbrev pub local_move : State → ℕ → Act → Option ℕ → LocalMove
local_move s v act target = record {
  act = act;
  target = target;
  pointer = pointer_of (written s s.registers v act target) v;
  flag = flag_of (written s s.registers v act target) v;
}

-- what the machine does at v, to the least target; None if no rule is enabled there
abbrev pub move_at : RuleTable → State → ℕ → Option LocalMove
move_at t s v = option_map (λ act. local_move s v act (least_target t s v act)) (rule_at t s v)

-- whether the machine may move v by the rule to the target
abbrev pub may_move_at : RuleTable → State → ℕ → Act → Option ℕ → Bool
may_move_at t s v act target =
    is_move_of t s (record { node = v; wish = None }) (record { node = v; act = act; target = target })

-- which targets a rule allows depends only on what is shown at its node
abbrev pub TargetsAreLocal : RuleTable → Type 0
TargetsAreLocal t =
    (s u : State) (v : ℕ) (act : Act) (w : ℕ) → IsState s → IsState u → SameAt s u v → t.allowed s v act w ≡ t.allowed u v act w

-- the node's registers after a move, from what is shown
abbrev pub pointer_after : NodeRecord → Act → Option ℕ → Option ℕ
pointer_after own Update target = own.target
pointer_after own Marry target = target
pointer_after own Seduce target = target
pointer_after own Abandon target = None

abbrev pub flag_after : NodeRecord → List NodeRecord → Act → Bool
flag_after own around Update = answered_among own around
flag_after own around Marry = own.flagged
flag_after own around Seduce = own.flagged
flag_after own around Abandon = own.flagged

abbrev pub move_from : NodeRecord → List NodeRecord → Act → Option ℕ → LocalMove
move_from own around act target = record {
  act = act;
  target = target;
  pointer = pointer_after own act target;
  flag = flag_after own around act;
}
