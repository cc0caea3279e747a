-- A step: the chosen nodes move at once, each by its rule in the state before.
use Rattle.std.specs.Prelude.{◌≡◌, ◌≢◌, ℕ, Bool, true, false, List, [], length, map, fold, Option, None, Some, IsSome, IsSomeAnd, IsTrue, All, Any}
use Rattle.std.specs.List.Sorted.{IsStrictlyIncreasing}
use Rattle.rule_machine.specs.declared.act.Act.{Act}
use Rattle.rule_machine.specs.declared.act.Act.TheVariants.{Update, Marry, Seduce, Abandon}
use Rattle.rule_machine.specs.declared.choice.Item.{Item}
use Rattle.rule_machine.specs.declared.act.Moved.{Moved}
use Rattle.rule_machine.specs.State.{State, Registers, with_pointer, with_flag, married}
use Rattle.rule_machine.specs.RuleTable.{RuleTable, rule_at}

-- whether a rule points its node at a target: only marry and seduce do
abbrev pub takes_target : Act → Bool
takes_target Update = false
takes_target Marry = true
takes_target Seduce = true
takes_target Abandon = false

-- the rule allows the target, and if there is a wish, the target is the wished one
abbrev pub IsAllowedTarget : RuleTable → State → ℕ → Act → Option ℕ → Option ℕ → Type 0
IsAllowedTarget t s v act wish target = IsSomeAnd target (λ w. IsTrue (t.allowed s v act w)) × (IsSome wish → target ≡ wish)

-- the targets that a move of v may have: only marry and seduce take a target
abbrev pub IsTarget : RuleTable → State → ℕ → Act → Option ℕ → Option ℕ → Type 0
IsTarget t s v Update wish target = target ≡ None
IsTarget t s v Marry wish target = IsAllowedTarget t s v Marry wish target
IsTarget t s v Seduce wish target = IsAllowedTarget t s v Seduce wish target
IsTarget t s v Abandon wish target = target ≡ None

-- the item asks for this move: by the rule of the item's node, to a target that rule and wish allow
pub record IsMoveOf (t : RuleTable) (s : State) (item : Item) (m : Moved) : Type 0 where
  pub node : m.node ≡ item.node
  pub rule : rule_at t s item.node ≡ Some m.act
  pub target : IsTarget t s item.node m.act item.wish m.target

-- the registers after one move; whether v is married is read in the state before the step
abbrev pub written : State → Registers → ℕ → Act → Option ℕ → Registers
written before r v Update target = with_flag r v (married before v)
written before r v Marry target = with_pointer r v target
written before r v Seduce target = with_pointer r v target
written before r v Abandon target = with_pointer r v None

abbrev pub after_move : State → Registers → Moved → Registers
after_move before r m = written before r m.node m.act m.target

-- the registers after these moves of one step
abbrev pub registers_after : State → List Moved → Registers
registers_after before moves = fold (after_move before) before.registers moves

abbrev pub after_moves : State → List Moved → State
after_moves before moves = record before { registers = registers_after before moves }

-- By these moves the step of this choice leads from s to s': each chosen node moves once, by its rule
-- and a target in s.
pub record IsStep (t : RuleTable) (s : State) (choice : List Item) (moves : List Moved) (s' : State) : Type 0 where
  pub some : moves ≢ []
  pub alone : IsTrue t.central → length moves ≡ 1
  pub ascending : IsStrictlyIncreasing (map (λ m. m.node) moves)
  pub each : All (λ m. Any (λ item. IsMoveOf t s item m) choice) moves
  pub all : All (λ item. Any (λ m. IsMoveOf t s item m) moves) choice
  pub after : s' ≡ after_moves s moves
