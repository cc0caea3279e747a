-- A rule set: guards and targets as functions of a state. Guards and targets alone decide every move.
use Rattle.std.specs.Prelude.{ℕ, Bool, ◌&&◌, List, [], ◌∷◌, Option, is_some, find, filter, reverse, nat_lt}
use Rattle.std.specs.List.{filter_map}
use Rattle.std.specs.Option.{option_map}
use Rattle.rule_machine.specs.declared.act.Act.{Act}
use Rattle.rule_machine.specs.declared.act.Act.TheVariants.{Update, Marry, Seduce, Abandon}
use Rattle.rule_machine.specs.Network.{names, neighbours}
use Rattle.rule_machine.specs.State.{State, pointer, flag}

pub record RuleTable : Type 0 where
  -- whether the rule is enabled at the node
  pub guard : State → ℕ → Act → Bool
  -- whether the rule allows the node to point at this name
  pub allowed : State → ℕ → Act → ℕ → Bool
  -- whether a neighbour with this pointer and flag is open to a seduction
  pub opens : Option ℕ → Bool → Bool
  -- the charge, which every move lowers
  pub charge : State → ℕ
  -- whether only one node moves at a time
  pub central : Bool
  -- whether the rules use flags
  pub flags : Bool

abbrev pub acts : List Act
acts = Update ∷ Marry ∷ Seduce ∷ Abandon ∷ []

-- the rule that is enabled at v, if any
abbrev pub rule_at : RuleTable → State → ℕ → Option Act
rule_at t s v = find (t.guard s v) acts

-- the enabled nodes, ascending
abbrev pub enabled_names : RuleTable → State → List ℕ
enabled_names t s = filter (λ v. is_some (rule_at t s v)) (names s.network)

-- the enabled nodes, ascending, each with its rule
abbrev pub enabled : RuleTable → State → List (ℕ × Act)
enabled t s = filter_map (λ v. option_map (λ act. (v, act)) (rule_at t s v)) (names s.network)

-- the least target that the rule allows at v
abbrev pub least_target : RuleTable → State → ℕ → Act → Option ℕ
least_target t s v act = find (t.allowed s v act) (neighbours s.network v)

-- whether w is open to a seduction
abbrev pub is_open : (Option ℕ → Bool → Bool) → State → ℕ → Bool
is_open opens s w = opens (pointer s w) (flag s w)

-- v's first open neighbour
abbrev pub first_open : (Option ℕ → Bool → Bool) → State → ℕ → Option ℕ
first_open opens s v = find (is_open opens s) (neighbours s.network v)

-- v's greatest open neighbour, if that neighbour's name is above v's
abbrev pub last_open_above : (Option ℕ → Bool → Bool) → State → ℕ → Option ℕ
last_open_above opens s v = find (λ w. is_open opens s w && nat_lt v w) (reverse (neighbours s.network v))
